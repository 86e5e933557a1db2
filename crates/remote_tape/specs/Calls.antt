-- Calls over a peer, each after the reply to the one before. A peer is the far end of a connection:
-- what is sent over it goes through that connection. `p` and `p'` are the peer before and after,
-- and `tells` relates a peer to what passed so far. `next` gives the request that follows some
-- replies. Public contracts rely on it (through Reading).
use Rattle.std.specs.Prelude.{◌≡◌, ◌⊎◌, Bool, true, false, List, [], ◌∷◌, ◌++◌, Option, Some, None, Ok, Err}
use Rattle.rmt_wire.specs.Reply.{PlainReply}
use Rattle.rmt_wire.specs.Reply.PlainReply.{Done, Data, Error}
use Rattle.rmt_wire.specs.Request.{PlainRequest}
use Rattle.remote_tape.specs.Call.{IsPeerCall}
use Rattle.remote_tape.specs.Peer.{Logs}
use Rattle.remote_tape.specs.declared.fault.CallFault.{CallFault}
use Rattle.remote_tape.specs.declared.fault.CallFault.TheVariants.{ConnectionEnded, Botched, OutOfMemory}
use Rattle.remote_tape.specs.declared.peer.Passed.{Passed}
use Rattle.remote_tape.specs.declared.peer.Passed.TheVariants.{Connected, Ended}

-- the request was done: its reply is a number
abbrev pub is_done : PlainReply → Bool
is_done (Done n) = true
is_done (Data bytes) = false
is_done (Error n text) = false

-- What passed since the connection was made, with the replies so far. `next` gives the next request
-- after some replies, if there is one.
pub data CallsFollow (next : List PlainReply → Option PlainRequest) : List PlainReply → List Passed → Type 0 where
  begins : CallsFollow next [] (Connected ∷ [])
  one_more : {replies : List PlainReply} {passed more : List Passed} (request : PlainRequest) (reply : PlainReply)
      → CallsFollow next replies passed → next replies ≡ Some request → IsPeerCall request (Ok reply) more
      → CallsFollow next (replies ++ reply ∷ []) (passed ++ more)

-- no call was made: there was no connection, or an allocation for replies failed
abbrev pub NotBegun : CallFault → List Passed → Type 0
NotBegun ConnectionEnded passed = passed ≡ Ended ∷ []
NotBegun OutOfMemory passed = passed ≡ []
NotBegun Botched passed = ⊥

-- how the calls end: no request is left, or the next call gets no reply, or no call was made
abbrev pub Stops : (List PlainReply → Option PlainRequest) → Option CallFault → List PlainReply → List Passed → Type 0
Stops next None replies passed = CallsFollow next replies passed × (next replies ≡ None)
Stops next (Some fault) replies passed =
    ((before : List Passed) × (more : List Passed) × (request : PlainRequest) × CallsFollow next replies before
    × (next replies ≡ Some request) × IsPeerCall request (Err fault) more × (passed ≡ before ++ more))
    ⊎ ((replies ≡ []) × NotBegun fault passed)

-- further calls were made after `replies`; `later` are all replies then
pub record Extends {P : Type 0} (next : List PlainReply → Option PlainRequest) (tells : P → List Passed → Type 0) (p p' : P)
    (replies later : List PlainReply) : Type 0 where
  pub more : List Passed
  pub logs : Logs tells p p' more
  pub follows : (passed : List Passed) → CallsFollow next replies passed → CallsFollow next later (passed ++ more)

-- further calls were made after `replies`, until no request was left or `fault` ended them; `later`
-- are all replies then
pub record Finishes {P : Type 0} (next : List PlainReply → Option PlainRequest) (tells : P → List Passed → Type 0) (p p' : P)
    (replies : List PlainReply) (fault : Option CallFault) (later : List PlainReply) : Type 0 where
  pub more : List Passed
  pub logs : Logs tells p p' more
  pub stops : (passed : List Passed) → CallsFollow next replies passed → Stops next fault later (passed ++ more)
