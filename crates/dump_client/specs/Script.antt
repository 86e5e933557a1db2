-- The requests of one attempt, which writes one volume, and the replies that it wants. The look is
-- the read of the reel's first record, before anything is written. The kind of a reply is a number
-- or data. Public contracts cite it.
use Rattle.std.specs.Prelude.{◌≡◌, ℕ, zero, suc, ◌+◌, if◌then◌else◌, nat_lt, List, [], ◌∷◌, ◌++◌, map, get_or, Option, Some, None}
use Rattle.std.specs.Str.{bytes_eq}
use Rattle.rmt_wire.specs.Request.{PlainRequest}
use Rattle.rmt_wire.specs.Request.PlainRequest.{Open as OpenDevice, Op, Write, Read, Close as CloseDevice}
use Rattle.rmt_wire.specs.Reply.{PlainReply, Wanted}
use Rattle.rmt_wire.specs.Reply.Wanted.{Number as NumberReply, DataUpTo}
use Rattle.rmt_wire.specs.Reply.PlainReply.{Done, Data, Error}
use Rattle.rmt_wire.specs.declared.errno.TheConstants.{ENOSPC}
use Rattle.rmt_wire.specs.declared.fcntl.TheConstants.{O_RDWR}
use Rattle.rmt_wire.specs.declared.mtio.TheConstants.{MTOFFL, MTREW, MTWEOF}
use Rattle.dump_run.specs.Run.{PlainRun}
pub use Rattle.dump_run.specs.Counts.{IsCount}
use Rattle.dump_run.specs.Label.{label, label_bytes}
use Rattle.dump_run.specs.declared.count.VolumeCount.{VolumeCount}
use Rattle.dump_client.specs.declared.step.Step.{Step}
use Rattle.dump_client.specs.declared.step.Step.TheVariants.{Open, Operation, Look, Label, Block, Close}
use Rattle.dump_client.specs.declared.step.TapeOp.{TapeOp}
use Rattle.dump_client.specs.declared.step.TapeOp.TheVariants.{Rewind, RewindAgain, Mark, Unload}

-- the number of a tape operation
abbrev pub number_of : TapeOp → ℕ
number_of Rewind = MTREW
number_of RewindAgain = MTREW
number_of (Mark next) = MTWEOF
number_of (Unload next) = MTOFFL

-- The request of a step of volume `volume`, which begins at block `first`. The order is: open for
-- reading and writing, MTREW, read of the first record, MTREW again, label, blocks, MTWEOF, MTOFFL,
-- close.
abbrev pub request_of : PlainRun → List (List ℕ) → ℕ → ℕ → Step → PlainRequest
request_of run payload volume first Open = OpenDevice run.device O_RDWR
request_of run payload volume first (Operation op) = Op (number_of op) 1
request_of run payload volume first Look = Read label_bytes
request_of run payload volume first Label = Write (label run volume first)
request_of run payload volume first (Block number) = Write (get_or payload number [])
request_of run payload volume first Close = CloseDevice

-- the kind of reply that a step waits for: at the look a record of at most `label_bytes` bytes,
-- otherwise a number
abbrev pub wanted_of : Step → Wanted
wanted_of Look = DataUpTo label_bytes
wanted_of step = NumberReply

-- the number of the first of these counted volumes whose label the bytes are
abbrev pub counted_label : PlainRun → List VolumeCount → List ℕ → Option ℕ
counted_label run [] bytes = None
counted_label run (c ∷ counts) bytes =
    if bytes_eq bytes (label run c.volume c.first) then Some c.volume else counted_label run counts bytes

-- the replies that a script can want
pub data Wish : Type 0 where
  AnyNumber : Wish
  Number : (number : ℕ) → Wish
  NoRoom : Wish
  -- bytes, perhaps none, that are not the label of a counted volume
  OtherLabel : Wish
  Anything : Wish

-- The reply is the wanted one, for a client that has counted these volumes of the run. The reply to
-- a write without room is 0 bytes or ENOSPC.
abbrev pub Grants : PlainRun → List VolumeCount → Wish → PlainReply → Type 0
Grants run counts AnyNumber (Done n) = Unit {0}
Grants run counts (Number number) (Done n) = n ≡ number
Grants run counts NoRoom (Done n) = n ≡ 0
Grants run counts NoRoom (Error n text) = n ≡ ENOSPC
Grants run counts OtherLabel (Data bytes) = counted_label run counts bytes ≡ None
Grants run counts Anything reply = Unit {0}
Grants run counts wish reply = ⊥

-- the writes of `count` blocks, beginning with this one, each written whole
abbrev pub block_steps : PlainRun → ℕ → ℕ → List (Step × Wish)
block_steps run first zero = []
block_steps run first (suc count) = (Block first, Number run.block_bytes) ∷ block_steps run (suc first) count

-- if blocks are left, one more is tried, for which there is no room
abbrev pub refused_step : PlainRun → ℕ → List (Step × Wish)
refused_step run next = if nat_lt next run.blocks then (Block next, NoRoom) ∷ [] else []

-- the steps that finish a volume that ends before block `next`
abbrev pub last_steps : ℕ → List (Step × Wish)
last_steps next = (Operation (Mark next), Number 1) ∷ (Operation (Unload next), Number 1) ∷ (Close, Anything) ∷ []

-- the steps before the blocks
abbrev pub first_steps : List (Step × Wish)
first_steps =
    (Open, AnyNumber) ∷ (Operation Rewind, Number 1) ∷ (Look, OtherLabel) ∷ (Operation RewindAgain, Number 1)
    ∷ (Label, Number label_bytes) ∷ []

-- the steps of a volume of `count` blocks that begins at `first`
abbrev pub steps_of : PlainRun → ℕ → ℕ → List (Step × Wish)
steps_of run first count =
    first_steps ++ (block_steps run first count ++ (refused_step run (first + count) ++ last_steps (first + count)))

-- the requests of a volume of `count` blocks that begins at `first`, in order, each with the reply
-- that is wanted
abbrev pub script : PlainRun → List (List ℕ) → ℕ → ℕ → ℕ → List (PlainRequest × Wish)
script run payload volume first count = map (λ s. (request_of run payload volume first s.0, s.1)) (steps_of run first count)
