-- Exit statuses as numbers. Public contracts cite it.
use Rattle.std.specs.Prelude.{◌≡◌, ℕ}
use Rattle.console.specs.Status.{status_code}
use Rattle.console.specs.declared.status.ExitStatus.{ExitStatus}

-- the number of an exit status for which this holds
abbrev pub HasCode : (ExitStatus → Type 0) → ℕ → Type 0
HasCode holds code = (status : ExitStatus) × holds status × (code ≡ status_code status)
