-- What a client does over a peer: each call of the client, and what passed in it. A peer is the far
-- end of a connection: what is sent over it goes through that connection. `p` and `p'` are the peer
-- before and after, and `tells` relates a peer to what passed so far. `told` holds for the payloads
-- that the client's source can have, and `allows` for the states from which an attempt may start.
-- Public contracts cite it.
use Rattle.std.specs.Prelude.{◌≡◌, ◌≢◌, ⊤, ℕ, Bool, true, false, List, [], ◌∷◌, ◌++◌, map, Result, Ok, Err}
use Rattle.dump_client.specs.Standing.{Standing, StartedAt, AnsweredAt, FedAt, CutAt}
use Rattle.dump_client.specs.Client.{ClientHeld, HasFed, NextRequestAt, unanswered}
use Rattle.dump_client.specs.declared.fault.AttemptFault.{AttemptFault}
use Rattle.dump_client.specs.declared.fault.StartFault.{StartFault}
use Rattle.dump_client.specs.declared.stage.Answer.{Answer}
use Rattle.dump_client.specs.declared.stage.Progress.{Progress}
use Rattle.remote_tape.specs.Peer.{AreBytesSent, Logs, connected}
use Rattle.remote_tape.specs.declared.peer.Passed.{Passed}
use Rattle.remote_tape.specs.declared.peer.Passed.TheVariants.{Given, Ended}

-- The connection stays open (true), and the client's state is unchanged. Or it ended (false), and
-- the client learned of it.
abbrev pub GoesOn : Bool → Standing → List ℕ → Standing → List ℕ → Type 0
GoesOn true at fed new later = (new ≡ at) × (later ≡ fed)
GoesOn false at fed new later = (progress : Progress) × CutAt at.stage at progress new × (later ≡ [])

-- an attempt may start from any state
abbrev pub FromAny : Standing → Type 0
FromAny at = ⊤

-- no attempt may start
abbrev pub FromNone : Standing → Type 0
FromNone at = ⊥

-- an attempt may start from this state alone
abbrev pub FromThis : Standing → Standing → Type 0
FromThis only at = at ≡ only

-- One call of the client, perhaps with the end of the connection in it. It has the client's state
-- and the bytes since its last request, before and after, and what passed. `told` is what the
-- client's source holds. An attempt starts only from a state that `allows` permits. The cases:
--
-- - `starts`: an attempt starts, and a connection is made for it.
-- - `stays`: no attempt can start.
-- - `asks`: the client makes the next request, and it is sent once.
-- - `has_none`: the client makes no request.
-- - `hears`: all the bytes that the peer sent are fed to the client.
-- - `ends`: the client learns that the connection ended.
-- - `answers`: the client gets the operator's answer.
pub data TalkStep (told : List (List ℕ) → Type 0) (allows : Standing → Type 0) : Standing → List ℕ → List Passed → Standing → List ℕ → Type 0 where
  starts : {old new : Standing} {fed later : List ℕ} (room : ℕ) (begun : Standing) (made : Bool)
      → allows old → StartedAt old.stage old room (Ok tt) begun → GoesOn made begun fed new later
      → TalkStep told allows old fed (connected made) new later
  stays : {old new : Standing} {fed : List ℕ} (room : ℕ) (fault : StartFault)
      → StartedAt old.stage old room (Err fault) new → TalkStep told allows old fed [] new fed
  asks : {old new : Standing} {fed later : List ℕ} {passed : List Passed} (capacity : ℕ) (text : List ℕ) (asked : Standing) (whole : Bool)
      → NextRequestAt old.stage told old capacity [] (Ok true) text asked → AreBytesSent text whole passed → GoesOn whole asked fed new later
      → TalkStep told allows old fed passed new later
  has_none : {old new : Standing} {fed : List ℕ} (capacity : ℕ) (result : Result Bool AttemptFault) (text : List ℕ)
      → NextRequestAt old.stage told old capacity [] result text new → result ≢ Ok true → TalkStep told allows old fed [] new fed
  hears : {old new : Standing} {fed : List ℕ} (piece : List ℕ) (progress : Progress)
      → FedAt old.stage old fed piece progress new → TalkStep told allows old fed (map Given piece) new (unanswered new.stage (fed ++ piece))
  ends : {old new : Standing} {fed : List ℕ} (progress : Progress)
      → CutAt old.stage old progress new → TalkStep told allows old fed (Ended ∷ []) new []
  answers : {old new : Standing} {fed : List ℕ} (answer : Answer) (result : Result Unit StartFault)
      → AnsweredAt old.stage old answer result new → TalkStep told allows old fed [] new fed

-- Calls of the client and of its connection, one after the other. They begin at the client's state
-- `start`, when the bytes `first` have come since its last request. With them are what passed, and
-- the client's state and the bytes since its last request at the end.
pub data Talks (told : List (List ℕ) → Type 0) (allows : Standing → Type 0) (start : Standing) (first : List ℕ) : List Passed → Standing → List ℕ → Type 0 where
  none : Talks told allows start first [] start first
  one_more : {passed more : List Passed} {before after : Standing} {fed later : List ℕ}
      → Talks told allows start first passed before fed → TalkStep told allows before fed more after later
      → Talks told allows start first (passed ++ more) after later

-- the client's calls between `c` and `c'`, and what passed in them, which is what the peer logged
pub record HasTalked {B P : Type 0} (told : List (List ℕ) → Type 0) (allows : Standing → Type 0) (tells : P → List Passed → Type 0)
    (c c' : ClientHeld B) (p p' : P) (fed : List ℕ) : Type 0 where
  pub passed : List Passed
  pub later : List ℕ
  pub talks : Talks told allows c.at fed passed c'.at later
  pub keeps : HasFed c' later
  pub logs : Logs tells p p' passed

-- the client talked over the peer, and its source still holds what it held
pub record TalksOver {B P : Type 0} (holds : B → List (List ℕ) → Type 0) (allows : Standing → Type 0) (tells : P → List Passed → Type 0)
    (c c' : ClientHeld B) (p p' : P) : Type 0 where
  pub same : (payload : List (List ℕ)) → holds c.source payload → holds c'.source payload
  pub talked : (fed : List ℕ) → HasFed c fed → HasTalked (holds c.source) allows tells c c' p p' fed

-- calls of the client that do not use the peer and start no attempt
pub record TalksAlone {B : Type 0} (holds : B → List (List ℕ) → Type 0) (c c' : ClientHeld B) : Type 0 where
  pub same : (payload : List (List ℕ)) → holds c.source payload → holds c'.source payload
  pub talked : (fed : List ℕ) → HasFed c fed → (later : List ℕ) × Talks (holds c.source) FromNone c.at fed [] c'.at later × HasFed c' later
