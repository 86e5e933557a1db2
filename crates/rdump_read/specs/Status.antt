-- The exit status of `rdump read` and of `rdump fetch`, if they fail.
use Rattle.console.specs.declared.status.ExitStatus.{ExitStatus}
use Rattle.console.specs.declared.status.ExitStatus.TheVariants.{Abnormal, StartupError}
use Rattle.rdump_read.specs.declared.fault.ReelFault.{ReelFault}
use Rattle.rdump_read.specs.declared.fault.ReelFault.TheVariants.{Start, NoCatalog}

-- a fault before a reel is read has another status than one after that
abbrev pub status_of : ReelFault → ExitStatus
status_of (Start path error) = StartupError
status_of (NoCatalog path fault) = StartupError
status_of fault = Abnormal
