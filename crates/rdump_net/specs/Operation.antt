-- One mtio operation: its requests, what is printed, and the exit status. A peer is the far end of
-- a connection: what is sent over it goes through that connection. `kind` gives what passed at the
-- peer and what the output has. Public contracts cite it.
use Rattle.std.specs.Prelude.{◌≡◌, ◌&&◌, ℕ, Bool, List, [], ◌∷◌, ◌++◌, length, codes, decimal, Option, Some, None, Result, Ok, Err, if◌then◌else◌, nat_eq}
use Rattle.rmt_wire.specs.Counted.{Counting}
use Rattle.rmt_wire.specs.Reply.{PlainReply}
use Rattle.rmt_wire.specs.Reply.PlainReply.{Done, Data, Error}
use Rattle.rmt_wire.specs.Request.{PlainRequest}
use Rattle.rmt_wire.specs.Request.PlainRequest.{Open, Close, Op}
use Rattle.rmt_wire.specs.declared.fcntl.TheConstants.{O_RDONLY, O_RDWR}
use Rattle.rmt_wire.specs.declared.mtio.TheConstants.{MTWEOF}
use Rattle.remote_tape.specs.Calls.{is_done, Stops, Extends, Finishes}
use Rattle.rdump_net.specs.Ends.{StreamEnds, StreamKind}
use Rattle.remote_tape.specs.Peer.{Logs}
use Rattle.console.specs.declared.status.ExitStatus.{ExitStatus}
use Rattle.console.specs.declared.status.ExitStatus.TheVariants.{Success, Abnormal}
use Rattle.rmt_wire.specs.Print.{IsPrinted}
use Rattle.remote_tape.specs.declared.fault.CallFault.{CallFault}
use Rattle.remote_tape.specs.declared.peer.Passed.{Passed}

-- the mode of the open: for reading and writing if the operation writes marks, else for reading
abbrev pub mode_for : ℕ → ℕ
mode_for op = if nat_eq op MTWEOF then O_RDWR else O_RDONLY

-- the next request: the open, then the operation, then the close; if the open was refused, the
-- close alone
abbrev pub next_of : List ℕ → ℕ → ℕ → List PlainReply → Option PlainRequest
next_of device op count [] = Some (Open device (mode_for op))
next_of device op count (opened ∷ []) = if is_done opened then Some (Op op count) else Some Close
next_of device op count (opened ∷ reply ∷ []) = if is_done opened then Some Close else None
next_of device op count (opened ∷ reply ∷ closed ∷ more) = None

-- the reply that is printed: that to the operation, or that to an open that was refused
abbrev pub printed_reply : List PlainReply → Option PlainReply
printed_reply [] = None
printed_reply (opened ∷ []) = if is_done opened then None else Some opened
printed_reply (opened ∷ reply ∷ more) = if is_done opened then Some reply else Some opened

-- the line of a reply: `A` and the number, or `E`, the number, a space and the text
abbrev pub reply_line : PlainReply → List ℕ
reply_line (Done n) = codes "A" ++ decimal n ++ codes "\n"
reply_line (Data bytes) = codes "A" ++ decimal (length bytes) ++ codes "\n"
reply_line (Error n text) = codes "E" ++ decimal n ++ codes " " ++ (text ++ codes "\n")

-- the line that is printed, if there is a reply to print
abbrev pub printed_line : Option PlainReply → List ℕ
printed_line None = []
printed_line (Some reply) = reply_line reply

-- the exit status: `Success` if the operation was done and its reply was printed, else `Abnormal`
abbrev pub status_after : Option PlainReply → Bool → ExitStatus
status_after None whole = Abnormal
status_after (Some reply) whole = if is_done reply && whole then Success else Abnormal

-- what an operation does over a peer, what it prints, and its exit status
pub record IsMt {P W : Type 0} (kind : StreamKind P W) (device : List ℕ) (op count : ℕ) (old new : StreamEnds P W)
    (status : ExitStatus) : Type 0 where
  pub replies : List PlainReply
  pub fault : Option CallFault
  pub passed : List Passed
  pub whole : Bool
  pub stops : Stops (next_of device op count) fault replies passed
  pub logs : Logs kind.tells old.peer new.peer passed
  pub printed : IsPrinted kind.contents (printed_line (printed_reply replies)) old.out new.out whole
  pub result : status ≡ status_after (printed_reply replies) whole

-- what the operation `op` of count `count` on `device` does over a peer that is connected, what it
-- prints, and its exit status
pub record IsOperated {P W : Type 0} (kind : StreamKind P W) (device : List ℕ) (op count : ℕ) (old new : StreamEnds P W)
    (status : ExitStatus) : Type 0 where
  pub replies : List PlainReply
  pub fault : Option CallFault
  pub whole : Bool
  pub finishes : Finishes (next_of device op count) kind.tells old.peer new.peer [] fault replies
  pub printed : IsPrinted kind.contents (printed_line (printed_reply replies)) old.out new.out whole
  pub result : status ≡ status_after (printed_reply replies) whole

-- the calls up to the reply to print, after which the close is next; `next` gives the next request
abbrev pub IsOperationReply : {P : Type 0} → (List PlainReply → Option PlainRequest) → (P → List Passed → Type 0) → P → P
    → Result PlainReply CallFault → Type 0
IsOperationReply next tells p p' (Ok reply) =
    (replies : List PlainReply) × Extends next tells p p' [] replies × (next replies ≡ Some Close) × (printed_reply replies ≡ Some reply)
    × ((closed : PlainReply) → (next (replies ++ closed ∷ []) ≡ None) × (printed_reply (replies ++ closed ∷ []) ≡ Some reply))
IsOperationReply next tells p p' (Err fault) =
    (replies : List PlainReply) × Finishes next tells p p' [] (Some fault) replies × (printed_reply replies ≡ None)

-- a reply is printed, and this is the exit status
abbrev pub IsReplyPrinted : {W : Type 0} → (W → Option (List ℕ)) → PlainReply → Counting W → Counting W → ExitStatus → Type 0
IsReplyPrinted contents reply out out' status =
    (whole : Bool) × IsPrinted contents (reply_line reply) out out' whole × (status ≡ status_after (Some reply) whole)
