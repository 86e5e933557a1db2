-- A client, a server, and everything that has passed between them: the state that the headline is
-- about. A count is the record of a volume that the client wrote whole to a reel. Public contracts
-- cite it.
use Rattle.std.specs.Prelude.{ℕ, zero, suc, Bool, List, slice_get, slice_set, Option, None}
use Rattle.rmt_wire.specs.ReplyReader.{ReplyHeld}
use Rattle.dumpdates.specs.Entry.{DatesEntry}
use Rattle.dump_run.specs.Run.{PlainRun}
use Rattle.dump_client.specs.Standing.{Standing}
use Rattle.dump_run.specs.declared.count.VolumeCount.{VolumeCount}
use Rattle.dump_client.specs.declared.fault.AttemptFault.{AttemptFault}
use Rattle.rmt_server.specs.ServerState.{ServerState}

-- A client's attempt, as far as it got on its connection. First the number of its run, its volume
-- and first block, and how many requests were sent and how many carried out. Then its writes:
-- whether the label was accepted, how many blocks were, whether the mark was, and whether a write
-- met a device fault.
pub record AttemptState : Type 0 where
  pub run : ℕ
  pub volume : ℕ
  pub first : ℕ
  pub sent : ℕ
  pub carried : ℕ
  pub label : Bool
  pub blocks : ℕ
  pub mark : Bool
  pub fault : Bool

-- A connection between the server and a peer, which is the client or a stranger. `toward` are the
-- bytes in transit to the server, `back` those to the peer. `cut` says whether it was cut, and
-- `other` whether the peer is still there. `dump` is the client's attempt, and none if the peer is
-- a stranger.
pub record Connection : Type 0 where
  pub toward : List ℕ
  pub back : List ℕ
  pub cut : Bool
  pub other : Bool
  pub dump : Option AttemptState

-- a run that was begun, and its payload in blocks
pub record Begun : Type 0 where
  pub run : PlainRun
  pub payload : List (List ℕ)

-- the client: the number of its run, its state (run, counts and stage), and its reader of replies
pub record WorldClient : Type 0 where
  pub number : ℕ
  pub at : Standing
  pub reader : ReplyHeld

-- a volume that the client counted: `run` is the number of its run, and `connection` wrote it on
-- `reel`
pub record Count : Type 0 where
  pub run : ℕ
  pub volume : ℕ
  pub first : ℕ
  pub count : ℕ
  pub reel : List ℕ
  pub connection : ℕ

-- an open for writing that the server accepted: the connection, and the name of the reel
pub record Opening : Type 0 where
  pub connection : ℕ
  pub reel : List ℕ

-- A request to write a record or marks, carried out by a session that had this reel open for
-- writing, whatever the reply was. `after` is how many opens for writing had been accepted by then.
pub record Writing : Type 0 where
  pub connection : ℕ
  pub reel : List ℕ
  pub after : ℕ

-- a run that was entered in dumpdates, by its number, and the counts that the client had then
pub record Entered : Type 0 where
  pub run : ℕ
  pub listed : List VolumeCount

-- A run that is saved outside the client, by its number, and the counts that the client had then:
-- the content of a checkpoint file.
pub record Kept : Type 0 where
  pub run : ℕ
  pub listed : List VolumeCount

-- Each list is in order of time. `lists` has for each opening the counts that the client had then,
-- and an empty list if there was no client. `own` is the connection of the client's attempt, while
-- one is under way. `kept` is the run that is saved outside the client. `failure` is the volume and
-- the cause, if the last event made an attempt fail.
pub record World : Type 0 where
  pub server : ServerState
  pub connections : List Connection
  pub begun : List Begun
  pub caller : Option WorldClient
  pub own : Option ℕ
  pub counts : List Count
  pub opens : List Opening
  pub lists : List (List VolumeCount)
  pub writings : List Writing
  pub entered : List Entered
  pub kept : Option Kept
  pub failure : Option (ℕ × AttemptFault)
  pub dates : List DatesEntry

-- the member with this number, counted from 1
abbrev pub numbered : {X : Type 0} → List X → ℕ → Option X
numbered xs zero = None
numbered xs (suc n) = slice_get xs n

-- the list with `x` in place of the member with this number
abbrev pub with_numbered : {X : Type 0} → List X → ℕ → X → List X
with_numbered xs zero x = xs
with_numbered xs (suc n) x = slice_set xs n x
