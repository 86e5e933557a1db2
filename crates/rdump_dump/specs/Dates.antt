-- What a dump does with its dumpdates file, if it has one.
use Rattle.std.specs.Prelude.{◌≡◌, ◌⊎◌, Bool, true, false, List, [], ◌∷◌, Option, Some, None, Result, Ok, Err}
use Rattle.dumpdates.specs.Entry.{DatesEntry}
use Rattle.dump_run.specs.Run.{PlainRun}
use Rattle.console.specs.declared.status.ExitStatus.{ExitStatus}
use Rattle.console.specs.declared.status.ExitStatus.TheVariants.{Success}
use Rattle.dump_files.specs.Updating.{IsUpdated}
use Rattle.whole_files.specs.WholeFile.{WholeFileKind}
use Rattle.dump_files.specs.declared.dates_update.UpdateFault.{UpdateFault}
use Rattle.rdump_net.specs.declared.conclusion.Conclusion.{Conclusion}
use Rattle.rdump_net.specs.declared.conclusion.Conclusion.TheVariants.{Complete}

-- the entry of a run
abbrev pub entry_of : PlainRun → DatesEntry
entry_of run = record { name = run.name; level = run.level; date = run.date }

-- whether an entry was made
abbrev pub is_made : {E : Type 0} → Result Unit E → Bool
is_made (Ok done) = true
is_made (Err fault) = false

-- The dump of this run was to be entered in the file, and was or was not. Without a file there is
-- nothing to do.
abbrev pub IsEntryMade : {F : Type 0} → WholeFileKind F → PlainRun → Bool → Option F → Option F → Type 0
IsEntryMade k run true (Some old) (Some new) = IsUpdated k (entry_of run) old new (Ok tt)
IsEntryMade k run false (Some old) (Some new) = (new ≡ old) ⊎ ((fault : UpdateFault) × IsUpdated k (entry_of run) old new (Err fault))
IsEntryMade k run true None None = Unit {0}
IsEntryMade k run done old new = ⊥

-- dumps were to be entered in the file, one after the other
abbrev pub AreEntriesMade : {F : Type 0} → WholeFileKind F → Option F → List (PlainRun × Bool) → Option F → Type 0
AreEntriesMade k old [] new = new ≡ old
AreEntriesMade {F} k old (one ∷ more) new = (between : Option F) × IsEntryMade k one.0 one.1 old between × AreEntriesMade k between more new

-- What became of the file at the end of a dump of this run. It is as it was, unless the dump is
-- complete. Then the dump was to be entered in it, and was if the status is `Success`.
abbrev pub IsDatesEnd : {F : Type 0} → WholeFileKind F → PlainRun → Conclusion → ExitStatus → Option F → Option F → Type 0
IsDatesEnd k run Complete status old new = (done : Bool) × IsEntryMade k run done old new × (status ≡ Success → done ≡ true)
IsDatesEnd k run end status old new = new ≡ old
