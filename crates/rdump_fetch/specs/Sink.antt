-- What a sink that makes a copy does with a volume. `k` has the promises of the kind of copy, and
-- `old` and `new` are the file of the copy before and after a call. Public contracts cite it.
use Rattle.std.specs.Prelude.{◌≡◌, ℕ, Bool, true, false, List, [], ◌∷◌, ◌++◌, Option, Some}
use Rattle.tape.specs.Failures.{Steps}
use Rattle.tape.specs.Tape.{PlainEntry, IsRecord}
use Rattle.tape.specs.Tape.PlainEntry.{Record, Mark as TapeMark}
use Rattle.tape.specs.RecordFile.{image_of}
use Rattle.dump_run.specs.Label.{PlainLabel, IsLabel, label_record}
use Rattle.rdump_net.specs.Sink.{SinkCall}
use Rattle.rdump_net.specs.Sink.SinkCall.{Label, Block, Mark, Complete}
use Rattle.rdump_fetch.specs.Copy.{PlainCopy, CopyKind, IsCopyAdded, plain_copy, with_bytes}

-- the copy of this label has one entry
abbrev pub IsCopyOf : PlainLabel → PlainEntry → Option PlainCopy → Option PlainCopy → Type 0
IsCopyOf l entry old new = new ≡ Some (plain_copy l (image_of entry))

-- What a call does to the copy. A label begins it with the label's record, and a block adds its
-- record. The mark changes nothing until the sink is asked to complete: it adds the mark then, and
-- the copy is kept. A call that is not accepted says nothing of the copy.
abbrev pub CopyStep : {F : Type 0} → CopyKind F → F → F → SinkCall → Bool → Type 0
CopyStep k old new (Label bytes) true =
    (l : PlainLabel) × IsLabel l × (bytes ≡ label_record l) × IsRecord bytes × Steps k.holds old new (IsCopyOf l (Record bytes))
CopyStep k old new (Block number bytes) true = IsRecord bytes × Steps k.holds old new (IsCopyAdded (image_of (Record bytes)) true)
CopyStep k old new Mark true = new ≡ old
CopyStep k old new Complete true = (copy : PlainCopy) → k.holds old (Some copy) → k.kept new (with_bytes (image_of TapeMark) copy)
CopyStep k old new call false = Unit {0}
