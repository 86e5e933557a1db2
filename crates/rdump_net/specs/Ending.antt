-- A dump with an observer, to its end. Public contracts cite it.
use Rattle.std.specs.Prelude.{◌≡◌, ℕ, Bool, true, false, List, [], ◌∷◌, ◌&&◌, Option, codes}
use Rattle.rmt_wire.specs.Counted.{Counting}
use Rattle.rmt_wire.specs.Print.{IsPrinted}
use Rattle.console.specs.declared.status.ExitStatus.{ExitStatus}
use Rattle.console.specs.declared.status.ExitStatus.TheVariants.{Success, Abnormal}
use Rattle.dump_run.specs.Run.{PlainRun}
use Rattle.rdump_net.specs.Observing.{DumpEvent, LogsOn}
use Rattle.rdump_net.specs.Observing.DumpEvent.{Completed, Entered, Forgotten}
use Rattle.rdump_net.specs.Keeping.{IsDumpKept, KeptEnds, KeptKind}
use Rattle.rdump_net.specs.declared.conclusion.Conclusion.{Conclusion}
use Rattle.rdump_net.specs.declared.conclusion.Conclusion.TheVariants.{Complete, Abandoned}
use Rattle.rdump_net.specs.declared.conclusion.DumpEnd.{DumpEnd}

-- the line that is printed if a complete dump could not be entered in dumpdates
abbrev pub unentered_line : List ℕ
unentered_line = codes "dumpdates not updated\n"

-- the exit status of a dump that was entered: everything else went well too, or not
abbrev pub entered_status : Bool → ExitStatus
entered_status true = Success
entered_status false = Abnormal

-- After a complete dump of this run, whose end was to be entered in the catalog (`has_all`: the
-- catalog has all of the dump): if the dump was entered in dumpdates, the checkpoint was to be
-- forgotten; else the line that says so was printed, perhaps not whole.
abbrev pub IsEntered : {W O : Type 0} → (W → Option (List ℕ)) → (O → O → List DumpEvent → Type 0) → PlainRun → Bool → Bool
    → Counting W → O → Counting W → O → ExitStatus → Type 0
IsEntered contents logs run has_all true out o out' o' status =
    (forgotten : Bool) × LogsOn logs o o' (Completed has_all ∷ Entered run true ∷ Forgotten forgotten ∷ []) × (out' ≡ out)
    × (status ≡ entered_status (has_all && forgotten))
IsEntered contents logs run has_all false out o out' o' status =
    (whole : Bool) × LogsOn logs o o' (Completed has_all ∷ Entered run false ∷ []) × IsPrinted contents unentered_line out out' whole
    × (status ≡ Abnormal)

-- The steps after the conclusion of a dump of this run, and the exit status. A complete dump is entered. The
-- checkpoint of an abandoned dump is forgotten. After any other conclusion nothing is done.
abbrev pub IsSettled : {W O : Type 0} → (W → Option (List ℕ)) → (O → O → List DumpEvent → Type 0) → PlainRun → Conclusion
    → Counting W → O → Counting W → O → ExitStatus → Type 0
IsSettled contents logs run Complete out o out' o' status =
    (has_all : Bool) × (entered : Bool) × IsEntered contents logs run has_all entered out o out' o' status
IsSettled contents logs run Abandoned out o out' o' status =
    (forgotten : Bool) × LogsOn logs o o' (Forgotten forgotten ∷ []) × (out' ≡ out) × (status ≡ Abnormal)
IsSettled contents logs run end out o out' o' status = (o' ≡ o) × (out' ≡ out) × (status ≡ Abnormal)

-- A dump to its end. First comes the dump up to its conclusion, which ends at `middle`. What follows
-- the conclusion leaves the client and the peer unchanged. This does not say when the observer is
-- asked whether an attempt may begin, or what its answers do. The observer of `rdump dump` promises
-- only what became of dumpdates; `tests/checks/catalog.py` shows the order of the rest.
pub record IsDumpEnded {B P W O : Type 0} (k : KeptKind B P W O) (old new : KeptEnds B P W O) (end : DumpEnd) : Type 0 where
  pub middle : KeptEnds B P W O
  pub dumped : IsDumpKept k old middle end.conclusion
  pub client : new.client ≡ middle.client
  pub peer : new.peer ≡ middle.peer
  pub settled : IsSettled k.contents k.logs middle.client.at.run end.conclusion middle.out middle.observer new.out new.observer end.status
