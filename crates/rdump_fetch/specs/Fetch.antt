-- The copy of a whole reel. `s` and `t` are the sink before and after. Public contracts cite it.
use Rattle.std.specs.Prelude.{◌≡◌, ℕ, List, [], ◌∷◌, Result, Option, Some}
use Rattle.tape.specs.Tape.{PlainEntry}
use Rattle.tape.specs.Tape.PlainEntry.{Record, Mark}
use Rattle.tape.specs.RecordFile.{images_of}
use Rattle.rmt_wire.specs.Reply.{PlainReply}
use Rattle.rmt_wire.specs.Request.PlainRequest.{Op}
use Rattle.rmt_wire.specs.declared.mtio.TheConstants.{MTOFFL}
use Rattle.dump_run.specs.Label.{PlainLabel, IsLabel, label_record}
use Rattle.remote_tape.specs.Search.{records_of}
use Rattle.rdump_net.specs.Ends.{SinkEnds, SinkKind}
use Rattle.rdump_net.specs.Reading.{IsRead, next_of}
use Rattle.rdump_net.specs.declared.fault.ReadFault.{ReadFault}
use Rattle.rdump_net.specs.declared.volume.AfterVolume.TheVariants.{Offline}
use Rattle.catalog.specs.declared.line.CatalogLine.{CatalogLine}
use Rattle.volume_check.specs.Volume.{file_sum}
use Rattle.rdump_fetch.specs.Comparing.{Compared}
use Rattle.rdump_fetch.specs.ComparedVolume.{HasNotDiffered}
use Rattle.rdump_fetch.specs.Copy.{PlainCopy, CopyKind, plain_copy}

-- the entries of a reel up to its first mark, if these records were read: the records, of which an
-- empty one is the end, and the mark
abbrev pub entries_read : List (List ℕ) → List PlainEntry
entries_read [] = Mark ∷ []
entries_read ([] ∷ records) = Mark ∷ []
entries_read ((b ∷ bytes) ∷ records) = Record (b ∷ bytes) ∷ entries_read records

-- The records that were read begin with a label, and the copy of this label is kept: it is the
-- record file of the entries that were read. If there is a catalog, its verdict on the label and
-- the sum of this record file is `Equal` or `Unknown`.
pub record HasKeptCopy {F : Type 0} (k : CopyKind F) (s t : Compared F) (records : List (List ℕ)) : Type 0 where
  pub label : PlainLabel
  pub is_label : IsLabel label
  pub more : List (List ℕ)
  pub begins : records ≡ label_record label ∷ more
  pub copied : (before : Option PlainCopy) → k.holds s.sink before → k.kept t.sink (plain_copy label (images_of (entries_read records)))
  pub compared : (lines : List CatalogLine) → s.sums ≡ Some lines → HasNotDiffered lines label (file_sum (entries_read records)) t

-- If MTOFFL is the next request after some replies, be they those that came or others, then the copy
-- of the reel is kept.
abbrev pub IsTakenAwayOnlyIfCopied : {P F : Type 0} → SinkKind P (Compared F) → CopyKind F → List ℕ → SinkEnds P (Compared F) → SinkEnds P (Compared F)
    → Result Unit ReadFault → Type 0
IsTakenAwayOnlyIfCopied kind k device old new result =
    (read : IsRead kind device Offline old new result) (before : List PlainReply)
    → next_of device Offline read.completed before ≡ Some (Op MTOFFL 1)
    → HasKeptCopy k old.sink new.sink (records_of read.replies)
