-- When a dump is whole, and why one stopped. Public contracts cite it.
use Rattle.std.specs.Prelude.{◌≡◌}
use Rattle.dump_client.specs.Position.{Covers}
use Rattle.dump_client.specs.Lawful.{AreVolumes}
use Rattle.dump_client.specs.Standing.{Standing}
use Rattle.dump_client.specs.declared.fault.StartFault.{StartFault}
use Rattle.dump_client.specs.declared.fault.StartFault.TheVariants as starts
use Rattle.dump_client.specs.declared.stage.Stage.TheVariants.{Finished}
use Rattle.example_client.specs.declared.volumes.Stopped.{Stopped}
use Rattle.example_client.specs.declared.volumes.Stopped.TheVariants.{NotUnderWay, OutOfMemory}

-- The run is finished. Its counted volumes follow one another from the first block, and are all its
-- blocks.
pub record IsWhole (at : Standing) : Type 0 where
  pub finished : at.stage ≡ Finished
  pub volumes : AreVolumes at.run 1 0 at.counts
  pub covered : Covers at.run at.counts

-- Why a dump ends that cannot start its next attempt.
abbrev pub stopped_by : StartFault → Stopped
stopped_by starts.WrongState = NotUnderWay
stopped_by starts.OutOfMemory = OutOfMemory
