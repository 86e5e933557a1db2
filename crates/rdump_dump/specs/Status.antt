-- The exit status of a dump.
use Rattle.std.specs.Prelude.{◌≡◌, ◌⊎◌}
use Rattle.dump_client.specs.Standing.{Standing}
use Rattle.dump_client.specs.declared.stage.Stage.TheVariants.{Finished}
use Rattle.console.specs.declared.status.ExitStatus.{ExitStatus}
use Rattle.console.specs.declared.status.ExitStatus.TheVariants.{Success, Abnormal}

-- the status of a dump that has begun: `Success` only if its run is finished
abbrev pub IsDumpStatus : Standing → ExitStatus → Type 0
IsDumpStatus at status = ((at.stage ≡ Finished) × (status ≡ Success)) ⊎ (status ≡ Abnormal)
