-- The exit status of a dump that ended.
use Rattle.std.proofs.Common.{◌≡◌, ◌&&◌, Bool, true, false, ℕ, List, Option, refl, subst, sym, inl, inr}
use Rattle.console.specs.declared.status.ExitStatus.{ExitStatus}
use Rattle.dump_run.specs.Run.{PlainRun}
use Rattle.rmt_wire.specs.Counted.{Counting}
use Rattle.dump_client.specs.Standing.{Standing}
use Rattle.dump_client.specs.declared.stage.Stage.TheVariants.{Finished}
use Rattle.rdump_net.specs.Observing.{DumpEvent}
use Rattle.rdump_net.specs.Keeping.{IsDumpKept, IsKeptConclusion, KeptEnds, KeptKind}
use Rattle.rdump_net.specs.Ending.{IsDumpEnded, IsEntered, IsSettled, entered_status}
use Rattle.rdump_net.specs.declared.conclusion.Conclusion.{Conclusion}
use Rattle.rdump_net.specs.declared.conclusion.Conclusion.TheVariants.{Complete, Abandoned, Left, PrintFailed, Unkept}
use Rattle.rdump_net.specs.declared.conclusion.DumpEnd.{DumpEnd}
use Rattle.rdump_dump.specs.Status.{IsDumpStatus}

-- a dump that is complete is finished
complete_at : (whole : Bool) (at : Standing) (last : List ℕ) → IsKeptConclusion whole at last Complete → at.stage ≡ Finished
complete_at true at last h = h.0
complete_at false at last h = absurd h

finished_at : {B P W O : Type 0} (k : KeptKind B P W O) (old new : KeptEnds B P W O) (end : Conclusion) → IsDumpKept k old new end
    → end ≡ Complete → new.client.at.stage ≡ Finished
finished_at k old new end h e = complete_at h.whole new.client.at h.last (subst (IsKeptConclusion h.whole new.client.at h.last) e h.ends)

-- after the entry, the status depends on the rest
all_done : (done : Bool) (at : Standing) (status : ExitStatus) → at.stage ≡ Finished → status ≡ entered_status done → IsDumpStatus at status
all_done true at status f e = inl (f, e)
all_done false at status f e = inr e

entered_so : {W O : Type 0} (contents : W → Option (List ℕ)) (logs : O → O → List DumpEvent → Type 0) (run : PlainRun) (out : Counting W) (o : O) (out' : Counting W) (o' : O)
    (status : ExitStatus) (at : Standing) → at.stage ≡ Finished → (has_all entered : Bool)
    → IsEntered contents logs run has_all entered out o out' o' status → IsDumpStatus at status
entered_so contents logs run out o out' o' status at f has_all true h = all_done (has_all && h.0) at status f h.3
entered_so contents logs run out o out' o' status at f has_all false h = inr h.3

settled_so : {W O : Type 0} (contents : W → Option (List ℕ)) (logs : O → O → List DumpEvent → Type 0) (run : PlainRun) (out : Counting W) (o : O) (out' : Counting W) (o' : O)
    (status : ExitStatus) (conclusion : Conclusion) (at : Standing) → (conclusion ≡ Complete → at.stage ≡ Finished)
    → IsSettled contents logs run conclusion out o out' o' status → IsDumpStatus at status
settled_so contents logs run out o out' o' status Complete at f h = entered_so contents logs run out o out' o' status at (f refl) h.0 h.1 h.2
settled_so contents logs run out o out' o' status Abandoned at f h = inr h.3
settled_so contents logs run out o out' o' status Left at f h = inr h.2
settled_so contents logs run out o out' o' status PrintFailed at f h = inr h.2
settled_so contents logs run out o out' o' status Unkept at f h = inr h.2

pub ended_so : {B P W O : Type 0} (k : KeptKind B P W O) (old new : KeptEnds B P W O) (end : DumpEnd) → IsDumpEnded k old new end
    → IsDumpStatus new.client.at end.status
ended_so k old new end h =
    subst (λ c. IsDumpStatus c.at end.status) (sym h.client)
    (settled_so k.contents k.logs h.middle.client.at.run h.middle.out h.middle.observer new.out new.observer end.status end.conclusion h.middle.client.at
    (finished_at k old h.middle end.conclusion h.dumped) h.settled)
