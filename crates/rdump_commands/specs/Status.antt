-- The exit statuses of single commands of `rdump`. Public contracts cite it.
use Rattle.std.specs.Prelude.{◌≡◌, ◌⊎◌}
use Rattle.console.specs.declared.status.ExitStatus.{ExitStatus}
use Rattle.console.specs.declared.status.ExitStatus.TheVariants.{Success, StartupError, Abnormal}

-- the status if no command is run: `Success` for help or the version, `StartupError` for wrong
-- arguments
abbrev pub IsHelpStatus : ExitStatus → Type 0
IsHelpStatus status = (status ≡ Success) ⊎ (status ≡ StartupError)

-- the status of `rdump dates`
abbrev pub IsDatesStatus : ExitStatus → Type 0
IsDatesStatus status = (status ≡ Success) ⊎ (status ≡ StartupError)

-- the status of `rdump mt`
abbrev pub IsMtStatus : ExitStatus → Type 0
IsMtStatus status = (status ≡ Success) ⊎ (status ≡ Abnormal)
