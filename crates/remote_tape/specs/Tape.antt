-- Requests to a tape: what each sends, and what comes of it. A peer is the far end of a connection:
-- what is sent over it goes through that connection. `p` and `p'` are the peer before and after,
-- and `tells` relates a peer to what passed so far. Public contracts cite it.
use Rattle.std.specs.Prelude.{◌≡◌, ◌≤◌, ℕ, Bool, false, List, Result, Ok, Err, nat_eq}
use Rattle.std.specs.Borrow.{Bor}
use Rattle.rmt_wire.specs.declared.mtio.TheConstants.{MTWEOF, MTFSF, MTBSR, MTREW, MTOFFL}
use Rattle.rmt_wire.specs.Reply.PlainReply.{Done, Data, Error}
use Rattle.rmt_wire.specs.Request.{PlainRequest}
use Rattle.rmt_wire.specs.Request.PlainRequest.{Open, Close, Write, Read, Op}
use Rattle.refusals.specs.declared.request.TapeRequest.{TapeRequest}
use Rattle.refusals.specs.declared.request.TapeRequest.TheVariants as named
use Rattle.remote_tape.specs.Call.{IsCalled}
use Rattle.remote_tape.specs.declared.fault.TapeCause.{TapeCause}
use Rattle.remote_tape.specs.declared.fault.TapeCause.TheVariants.{Refused, NoReply}
use Rattle.remote_tape.specs.declared.fault.TapeFault.{TapeFault}
use Rattle.remote_tape.specs.declared.peer.Passed.{Passed}

-- this operation of mtio spaces over marks or records
abbrev pub IsSpace : ℕ → Type 0
IsSpace op = (MTFSF ≤ op) × (op ≤ MTBSR)

-- a fault that names a request so means this request
abbrev pub IsNamed : TapeRequest → PlainRequest → Type 0
IsNamed named.Open request = (device : List ℕ) × (mode : ℕ) × (request ≡ Open device mode)
IsNamed named.Rewind request = request ≡ Op MTREW 1
IsNamed named.Space request = (op : ℕ) × (count : ℕ) × IsSpace op × (request ≡ Op op count)
IsNamed named.Read request = (most : ℕ) × (request ≡ Read most)
IsNamed named.Write request = (bytes : List ℕ) × (request ≡ Write bytes)
IsNamed named.LongWrite request = (bytes : List ℕ) × (request ≡ Write bytes)
IsNamed named.WriteMark request = (count : ℕ) × (request ≡ Op MTWEOF count)
IsNamed named.Offline request = request ≡ Op MTOFFL 1
IsNamed named.Nop request = (op : ℕ) × (count : ℕ) × (request ≡ Op op count)
IsNamed named.Close request = request ≡ Close

-- the cause is a refusal with this number
abbrev pub is_refused_with : ℕ → TapeCause → Bool
is_refused_with errno (Refused number) = nat_eq number errno
is_refused_with errno (NoReply fault) = false

-- `request` was sent over a peer, and failed for this cause
abbrev pub HasCause : {P : Type 0} → (P → List Passed → Type 0) → PlainRequest → P → P → TapeCause → Type 0
HasCause tells request p p' (Refused number) = (text : List ℕ) × IsCalled tells request (Ok (Error number text)) p p'
HasCause tells request p p' (NoReply fault) = IsCalled tells request (Err fault) p p'

-- `request` was made over a peer, and failed; the fault names it as `name`, and has the cause
abbrev pub HasFailed : {P : Type 0} → (P → List Passed → Type 0) → TapeRequest → PlainRequest → P → P → TapeFault → Type 0
HasFailed tells name request p p' fault = (fault.request ≡ name) × HasCause tells request p p' fault.cause

-- `request` was made over a peer: it was done, or it failed, perhaps before it was sent
abbrev pub IsAsked : {P : Type 0} → (P → List Passed → Type 0) → TapeRequest → PlainRequest → P → P → Result Unit TapeFault → Type 0
IsAsked tells name request p p' (Ok x) = (number : ℕ) × IsCalled tells request (Ok (Done number)) p p'
IsAsked tells name request p p' (Err fault) = HasFailed tells name request p p' fault

-- a read of at most `most` bytes was made over a peer: these bytes came, or it failed
abbrev pub IsRecordRead : {P : Type 0} → (P → List Passed → Type 0) → ℕ → P → P → Result (Bor (List ℕ)) TapeFault → Type 0
IsRecordRead tells most p p' (Ok bytes) = IsCalled tells (Read most) (Ok (Data bytes.now)) p p'
IsRecordRead tells most p p' (Err fault) = HasFailed tells named.Read (Read most) p p' fault
