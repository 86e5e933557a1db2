-- The exit statuses of `rdump cat`. Public contracts cite it.
use Rattle.std.specs.Prelude.{Bool, true, false, Result, Ok, Err}
use Rattle.console.specs.declared.status.ExitStatus.{ExitStatus}
use Rattle.console.specs.declared.status.ExitStatus.TheVariants.{Success, StartupError, Abnormal}
use Rattle.restore.specs.declared.fault.Refusal.{Refusal}
use Rattle.restore.specs.declared.fault.Refusal.TheVariants.{OutOfMemory, Unreadable, NoVolume, TwoDumps, TwoReels, TwoSizes, Missing, MoreVolumes, Displaced, OtherLength}
use Rattle.restore.specs.declared.fault.RestoreFault.{RestoreFault}
use Rattle.restore.specs.declared.fault.RestoreFault.TheVariants.{Refused, Reel, Output}

-- the exit status after a refusal
abbrev pub refused_status : Refusal → ExitStatus
refused_status OutOfMemory = StartupError
refused_status (Unreadable reel) = StartupError
refused_status NoVolume = Abnormal
refused_status (TwoDumps reel other) = StartupError
refused_status (TwoReels reel other) = Abnormal
refused_status (TwoSizes reel other) = Abnormal
refused_status (Missing volume) = Abnormal
refused_status (MoreVolumes volumes) = Abnormal
refused_status (Displaced reel end) = Abnormal
refused_status (OtherLength blocks block_bytes) = Abnormal

-- The exit status, given what came of the restore, and whether the reader of the output closed it.
abbrev pub cat_status : {X : Type 0} → Result X RestoreFault → Bool → ExitStatus
cat_status (Ok done) is_closed = Success
cat_status (Err Output) true = Success
cat_status (Err Output) false = StartupError
cat_status (Err (Reel reel)) is_closed = Abnormal
cat_status (Err (Refused refusal)) is_closed = refused_status refusal

-- The exit status for a payload of which parts may be missing, given what came of the restore, and
-- whether the reader of the output closed it. As `cat_status`, but never `Success`.
abbrev pub parts_status : {X : Type 0} → Result X RestoreFault → Bool → ExitStatus
parts_status (Ok done) is_closed = Abnormal
parts_status (Err Output) true = Abnormal
parts_status (Err Output) false = StartupError
parts_status (Err (Reel reel)) is_closed = Abnormal
parts_status (Err (Refused refusal)) is_closed = refused_status refusal
