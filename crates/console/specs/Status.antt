-- The numbers of the exit statuses. Public contracts cite it.
use Rattle.std.specs.Prelude.{ℕ}
use Rattle.console.specs.declared.status.ExitStatus.{ExitStatus}
use Rattle.console.specs.declared.status.ExitStatus.TheVariants.{Success, StartupError, Abnormal}

-- The number of a status, as dump(8) has it: 0 on success, 1 for a startup error, and 3 for an
-- abnormal termination.
abbrev pub status_code : ExitStatus → ℕ
status_code Success = 0
status_code StartupError = 1
status_code Abnormal = 3
