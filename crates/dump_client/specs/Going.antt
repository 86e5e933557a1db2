-- How a client continues in its run. A count is the record of a volume that was written whole: its
-- number, its first block and its number of blocks. Public contracts cite it.
use Rattle.std.specs.Prelude.{◌≡◌, ◌≢◌, ◌⊎◌, List, [], ◌++◌}
use Rattle.dump_client.specs.Standing.{Standing}
use Rattle.dump_run.specs.declared.count.VolumeCount.{VolumeCount}
use Rattle.dump_client.specs.declared.stage.Progress.{Progress}
use Rattle.dump_client.specs.declared.stage.Progress.TheVariants.{Idle, Waiting, Send, Failed, Ended}
use Rattle.dump_client.specs.declared.stage.Stage.TheVariants.{Ready, ToSend, Waiting as Awaits, Asking, Finished}
use Rattle.dump_client.specs.declared.step.Step.{Step}

-- The run is the same, and `more` follows the counts that there were. A finished client stays
-- finished, and counts no more.
pub record GoesOnWith (old new : Standing) (more : List VolumeCount) : Type 0 where
  pub run : new.run ≡ old.run
  pub counts : new.counts ≡ old.counts ++ more
  pub finished : old.stage ≡ Finished → (new.stage ≡ Finished) × (more ≡ [])

-- The returned progress agrees with the stage: a request is to be sent, a reply is awaited, or
-- there is no attempt. If it is `Idle`, there was no attempt before, and nothing changed.
abbrev pub AgreesWithProgress : Standing → Progress → Standing → Type 0
AgreesWithProgress old Send new = (step : Step) × (new.stage ≡ ToSend step)
AgreesWithProgress old Waiting new = (step : Step) × (new.stage ≡ Awaits step)
AgreesWithProgress old Ended new = (new.stage ≡ Finished) ⊎ (new.stage ≡ Ready)
AgreesWithProgress old (Failed fault) new = new.stage ≡ Asking
AgreesWithProgress old Idle new = (new ≡ old) × ((step : Step) → (old.stage ≢ ToSend step) × (old.stage ≢ Awaits step))
