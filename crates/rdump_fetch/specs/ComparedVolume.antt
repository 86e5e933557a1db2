-- What a list of calls of a comparing sink means. `takes` relates the inner sink before and after a
-- call to the call and to whether the sink accepted it. `s` is the comparing sink before the calls,
-- and `t` the sink after them. Public contracts cite it.
use Rattle.std.specs.Prelude.{◌≡◌, ◌⊎◌, ℕ, Bool, true, false, List, [], ◌∷◌, ◌++◌, map, Some}
use Rattle.tape.specs.Tape.{PlainEntry}
use Rattle.tape.specs.Tape.PlainEntry.{Record, Mark as TapeMark}
use Rattle.dump_run.specs.Label.{PlainLabel, label_record}
use Rattle.rdump_net.specs.Sink.{SinkCall, Takes, blocks_from}
use Rattle.rdump_net.specs.Sink.SinkCall.{Label, Mark, Complete}
use Rattle.catalog.specs.declared.line.CatalogLine.{CatalogLine}
use Rattle.catalog.specs.Verdict.{IsVerdict}
use Rattle.catalog.specs.declared.verdict.SumVerdict.{SumVerdict}
use Rattle.catalog.specs.declared.verdict.SumVerdict.TheVariants.{Equal, Unknown}
use Rattle.rdump_fetch.specs.Comparing.{Compared, IsRefused}

-- The inner sink was given the same calls. If the comparing sink did not accept the last call, the
-- inner sink did not either, or the verdict refused the volume: then the inner sink accepted all
-- calls but the last, and was not asked to complete.
abbrev pub PassesOn : {S : Type 0} → (S → S → SinkCall → Bool → Type 0) → Compared S → Compared S → List SinkCall → Bool → Type 0
PassesOn takes s t calls true = Takes takes s.sink t.sink calls true
PassesOn takes s t calls false = Takes takes s.sink t.sink calls false
    ⊎ ((before : List SinkCall) × (calls ≡ before ++ Complete ∷ []) × Takes takes s.sink t.sink before true × IsRefused t.verdict)

-- the calls for a whole volume: its label, the records after the label, the mark, and `Complete`
abbrev pub volume_calls : PlainLabel → List (List ℕ) → List SinkCall
volume_calls l more = Label (label_record l) ∷ (blocks_from 0 more ++ Mark ∷ Complete ∷ [])

-- the entries of a whole volume: its label, a record for each block, and the mark
abbrev pub volume_entries : PlainLabel → List (List ℕ) → List PlainEntry
volume_entries l more = map Record (label_record l ∷ more) ++ TapeMark ∷ []

-- The sink's verdict is that of the lines on the label and the sum, and it is `Equal` or `Unknown`.
abbrev pub HasNotDiffered : {S : Type 0} → List CatalogLine → PlainLabel → List ℕ → Compared S → Type 0
HasNotDiffered lines l sum t = (verdict : SumVerdict) × (t.verdict ≡ Some verdict) × IsVerdict lines l sum verdict
    × ((verdict ≡ Equal) ⊎ (verdict ≡ Unknown))
