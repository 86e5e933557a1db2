-- A client whose state is told as finished has a whole dump.
use Rattle.std.proofs.Common.{◌≡◌, refl, subst}
use Rattle.dump_client.specs.Lawful.{IsLawful, StageFits}
use Rattle.dump_client.specs.Standing.{Standing, state_of}
use Rattle.dump_client.specs.declared.stage.Stage.{Stage}
use Rattle.dump_client.specs.declared.stage.Stage.TheVariants.{Ready, ToSend, Waiting, Asking, Finished, Abandoned}
use Rattle.dump_client.specs.declared.stage.State.{State}
use Rattle.dump_client.specs.declared.stage.State.TheVariants as told
use Rattle.example_client.specs.Whole.{IsWhole}

-- the state that is told is that of the stage
finished_stage : (stage : Stage) (state : State) → state ≡ state_of stage → state ≡ told.Finished → stage ≡ Finished
finished_stage Ready state e h = cc
finished_stage (ToSend step) state e h = cc
finished_stage (Waiting step) state e h = cc
finished_stage Asking state e h = cc
finished_stage Finished state e h = refl
finished_stage Abandoned state e h = cc

pub whole : (at : Standing) (state : State) → IsLawful at → state ≡ state_of at.stage → state ≡ told.Finished → IsWhole at
whole at state lawful e h =
    let finished = finished_stage at.stage state e h in
    record {
      finished = finished;
      volumes = lawful.counts;
      covered = subst (StageFits at.run at.counts) finished lawful.stage;
    }
