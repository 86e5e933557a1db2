-- The exit statuses of `rdump ls`.
use Rattle.std.specs.Prelude.{Bool, true, false, Option, Some, None}
use Rattle.console.specs.declared.status.ExitStatus.{ExitStatus}
use Rattle.console.specs.declared.status.ExitStatus.TheVariants.{Success, StartupError, Abnormal}
use Rattle.catalog.specs.declared.verdict.SumVerdict.{SumVerdict}
use Rattle.catalog.specs.declared.verdict.SumVerdict.TheVariants.{Equal, Differs, Anew, Void, Unknown}

-- The exit status, given whether everything was read and printed, and whether all is whole:
-- `StartupError` if something could not be read or printed, else `Abnormal` if something is not
-- whole, else `Success`.
abbrev pub list_status : Bool → Bool → ExitStatus
list_status false is_whole = StartupError
list_status true false = Abnormal
list_status true true = Success

-- A reel does not fail the list if it was not compared, if its sum is equal, or if it is of a dump
-- or a volume that was begun or written again.
abbrev pub is_passed : Option SumVerdict → Bool
is_passed None = true
is_passed (Some Equal) = true
is_passed (Some Differs) = false
is_passed (Some Anew) = true
is_passed (Some Void) = true
is_passed (Some Unknown) = false
