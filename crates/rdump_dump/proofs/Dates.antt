-- What becomes of the dumpdates file of a dump.
use Rattle.std.proofs.Common.{◌≡◌, ◌++◌, Bool, true, false, ℕ, List, [], ◌∷◌, Option, refl, subst, sym, ap, ◌∙◌}
use Rattle.console.specs.declared.status.ExitStatus.{ExitStatus}
use Rattle.console.specs.declared.status.ExitStatus.TheVariants.{Success}
use Rattle.dump_run.specs.Run.{PlainRun}
use Rattle.rmt_wire.specs.Counted.{Counting}
use Rattle.remote_tape.specs.declared.peer.Passed.{Passed}
use Rattle.whole_files.specs.WholeFile.{WholeFileKind}
use Rattle.rdump_net.specs.Observing.{DumpEvent, LogsOn, entered_of}
use Rattle.rdump_net.specs.Keeping.{KeptEnds, kept_kind}
use Rattle.rdump_net.specs.Ending.{IsDumpEnded, IsEntered, IsSettled}
use Rattle.rdump_net.proofs.Observed.{entered_both}
use Rattle.rdump_net.specs.declared.conclusion.Conclusion.{Conclusion}
use Rattle.rdump_net.specs.declared.conclusion.Conclusion.TheVariants.{Complete, Abandoned, Left, PrintFailed, Unkept}
use Rattle.rdump_net.specs.declared.conclusion.DumpEnd.{DumpEnd}
use Rattle.rdump_dump.specs.Dates.{AreEntriesMade, IsDatesEnd, IsEntryMade}

module _ {F : Type 0} (k : WholeFileKind F) where
  -- dumps were to be entered, and then more
  are_both : (a b c : Option F) (one two : List (PlainRun × Bool)) → AreEntriesMade k a one b → AreEntriesMade k b two c → AreEntriesMade k a (one ++ two) c
  are_both a b c [] two h t = subst (λ x. AreEntriesMade k x two c) h t
  are_both a b c (one ∷ more) two h t = (h.0, h.1, are_both h.0 b c more two h.2 t)

  -- what was logged, and then these events
  pub then_entered : (a b c : Option F) (log events : List DumpEvent) → AreEntriesMade k a (entered_of log) b → AreEntriesMade k b (entered_of events) c
      → AreEntriesMade k a (entered_of (log ++ events)) c
  then_entered a b c log events h t = subst (λ l. AreEntriesMade k a l c) (sym (entered_both log events)) (are_both a b c (entered_of log) (entered_of events) h t)

  -- what was logged, and then events that do not change the file
  pub then_still : (a b c : Option F) (log events : List DumpEvent) → entered_of events ≡ [] → c ≡ b → AreEntriesMade k a (entered_of log) b
      → AreEntriesMade k a (entered_of (log ++ events)) c
  then_still a b c log events none same h = then_entered a b c log events h (subst (λ l. AreEntriesMade k b l c) (sym none) same)

  module _ {O : Type 0} (dates : O → Option F) where
    -- what an observer logs that has such a file
    abbrev pub dates_log : O → O → List DumpEvent → Type 0
    dates_log first now log = AreEntriesMade k (dates first) (entered_of log) (dates now)

    entered_dates : {W : Type 0} (contents : W → Option (List ℕ)) (run : PlainRun) (has_all entered : Bool) (out : Counting W) (o : O) (out' : Counting W) (o' : O)
        (status : ExitStatus) → IsEntered contents dates_log run has_all entered out o out' o' status → IsDatesEnd k run Complete status (dates o) (dates o')
    entered_dates contents run has_all true out o out' o' status h =
        let t = h.1 o [] refl in
        (true, subst (λ d. IsEntryMade k run true (dates o) d) (sym t.2) t.1, λ s. refl)
    entered_dates contents run has_all false out o out' o' status h =
        let t = h.1 o [] refl in
        (false, subst (λ d. IsEntryMade k run false (dates o) d) (sym t.2) t.1, λ s. (let e = sym s ∙ h.3 in absurd cc))

    settled_dates : {W : Type 0} (contents : W → Option (List ℕ)) (run : PlainRun) (conclusion : Conclusion) (out : Counting W) (o : O) (out' : Counting W) (o' : O)
        (status : ExitStatus) → IsSettled contents dates_log run conclusion out o out' o' status → IsDatesEnd k run conclusion status (dates o) (dates o')
    settled_dates contents run Complete out o out' o' status h = entered_dates contents run h.0 h.1 out o out' o' status h.2
    settled_dates contents run Abandoned out o out' o' status h = h.1 o [] refl
    settled_dates contents run Left out o out' o' status h = ap dates h.0
    settled_dates contents run PrintFailed out o out' o' status h = ap dates h.0
    settled_dates contents run Unkept out o out' o' status h = ap dates h.0

    -- the file is as it was until the dump is complete, and then the dump was to be entered
    pub dates_ended : {B P W : Type 0} (holds : B → List (List ℕ) → Type 0) (tells : P → List Passed → Type 0) (contents : W → Option (List ℕ))
        (old new : KeptEnds B P W O) (end : DumpEnd) → IsDumpEnded (kept_kind holds tells contents dates_log) old new end
        → IsDatesEnd k new.client.at.run end.conclusion end.status (dates old.observer) (dates new.observer)
    dates_ended holds tells contents old new end h =
        let still : dates h.middle.observer ≡ dates old.observer =
        subst (λ l. AreEntriesMade k (dates old.observer) l (dates h.middle.observer)) h.dumped.unentered (h.dumped.logs old.observer [] refl) in
        let settled = settled_dates contents h.middle.client.at.run end.conclusion h.middle.out h.middle.observer new.out new.observer end.status h.settled in
        subst (λ c. IsDatesEnd k c.at.run end.conclusion end.status (dates old.observer) (dates new.observer)) (sym h.client)
        (subst (λ d. IsDatesEnd k h.middle.client.at.run end.conclusion end.status d (dates new.observer)) still settled)
