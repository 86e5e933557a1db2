-- A sink that compares each volume with the lines of a catalog. `takes` relates the inner sink
-- before and after a call to the call and to whether the sink accepted it. `s` and `s'` are the
-- comparing sink before and after. Public contracts cite it.
use Rattle.std.specs.Prelude.{◌≡◌, ◌≢◌, ◌⊎◌, ℕ, Bool, true, false, List, [], ◌∷◌, ◌++◌, Option, Some, None}
use Rattle.tape.specs.Tape.{PlainEntry, IsRecord}
use Rattle.tape.specs.Tape.PlainEntry.{Record, Mark as TapeMark}
use Rattle.dump_run.specs.Label.{PlainLabel, ReadsLabel}
use Rattle.rdump_net.specs.Sink.{SinkCall}
use Rattle.rdump_net.specs.Sink.SinkCall.{Label, Block, Mark, Complete}
use Rattle.catalog.specs.declared.line.CatalogLine.{CatalogLine}
use Rattle.catalog.specs.Verdict.{IsVerdict}
use Rattle.catalog.specs.declared.verdict.SumVerdict.{SumVerdict}
use Rattle.catalog.specs.declared.verdict.SumVerdict.TheVariants.{Equal, Differs, Anew, Void, Unknown}
use Rattle.volume_check.specs.Volume.{file_sum}
use Rattle.volume_check.specs.Hashing.{HoldsEntries}
use Rattle.volume_check.specs.declared.entry_hasher.EntryHasher.{EntryHasher}

-- The view of the sink: the inner sink, the lines of the catalog if one is compared, the label of
-- the current volume, the hasher of its records, and the result of the last comparison.
pub record Compared (S : Type 0) : Type 0 where
  pub sink : S
  pub sums : Option (List CatalogLine)
  pub label : Option PlainLabel
  pub hasher : EntryHasher
  pub verdict : Option SumVerdict

-- A volume has begun with this record, and has no verdict. If there is a catalog, the hasher
-- holds the record and nothing else.
abbrev pub IsBegun : {S : Type 0} → Compared S → Compared S → List ℕ → Type 0
IsBegun s s' bytes = (s'.sums ≡ s.sums) × ReadsLabel bytes s'.label × (s'.verdict ≡ None)
    × (s.sums ≢ None → IsRecord bytes → HoldsEntries s'.hasher (Record bytes ∷ []))

-- the catalog, the label and the verdict are as before
abbrev pub IsSameVolume : {S : Type 0} → Compared S → Compared S → Type 0
IsSameVolume s s' = (s'.sums ≡ s.sums) × (s'.label ≡ s.label) × (s'.verdict ≡ s.verdict)

-- If there is a catalog, the record was added to those that the hasher holds.
abbrev pub IsAdded : {S : Type 0} → Compared S → Compared S → List ℕ → Type 0
IsAdded s s' bytes = s.sums ≢ None → IsRecord bytes → (entries : List PlainEntry) → HoldsEntries s.hasher entries
    → HoldsEntries s'.hasher (entries ++ Record bytes ∷ [])

-- The result of a comparison. There is a verdict exactly if there is a catalog and the volume has
-- a label. It is the verdict of the lines on the sum of the entries that the hasher holds.
abbrev pub IsComparedAs : {S : Type 0} → Compared S → Option SumVerdict → Type 0
IsComparedAs s None = (s.sums ≡ None) ⊎ (s.label ≡ None)
IsComparedAs s (Some verdict) = (lines : List CatalogLine) × (l : PlainLabel) × (s.sums ≡ Some lines) × (s.label ≡ Some l)
    × ((entries : List PlainEntry) → HoldsEntries s.hasher entries → IsVerdict lines l (file_sum entries) verdict)

-- A volume with this verdict is not completed: its sum is not that of a line in force, but a line in
-- force has its label, or another line has its label and its sum.
abbrev pub IsRefused : Option SumVerdict → Type 0
IsRefused None = ⊥
IsRefused (Some Equal) = ⊥
IsRefused (Some Unknown) = ⊥
IsRefused (Some Differs) = Unit {0}
IsRefused (Some Anew) = Unit {0}
IsRefused (Some Void) = Unit {0}

-- The sink completes if the inner sink does, and the verdict does not refuse the volume. If it
-- does, the inner sink is not asked.
abbrev pub CompletesBy : {S : Type 0} → (S → S → SinkCall → Bool → Type 0) → Compared S → Compared S → Bool → Type 0
CompletesBy takes s s' true = takes s.sink s'.sink Complete true × (IsRefused s'.verdict → ⊥)
CompletesBy takes s s' false =
    (takes s.sink s'.sink Complete false × (IsRefused s'.verdict → ⊥)) ⊎ (IsRefused s'.verdict × (s'.sink ≡ s.sink))

-- What a call does to the sink. The inner sink gets the label, each block and the mark, and decides
-- whether they are accepted.
abbrev pub ComparedStep : {S : Type 0} → (S → S → SinkCall → Bool → Type 0) → Compared S → Compared S → SinkCall → Bool → Type 0
ComparedStep takes s s' (Label bytes) accepted = takes s.sink s'.sink (Label bytes) accepted × IsBegun s s' bytes
ComparedStep takes s s' (Block number bytes) accepted = takes s.sink s'.sink (Block number bytes) accepted × IsSameVolume s s'
    × IsAdded s s' bytes
ComparedStep takes s s' Mark accepted = takes s.sink s'.sink Mark accepted × IsSameVolume s s'
    × ((entries : List PlainEntry) → HoldsEntries s.hasher entries → HoldsEntries s'.hasher (entries ++ TapeMark ∷ []))
ComparedStep takes s s' Complete accepted = (s'.sums ≡ s.sums) × (s'.label ≡ s.label) × IsComparedAs s s'.verdict × CompletesBy takes s s' accepted
