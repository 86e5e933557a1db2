-- The arguments DEVICE=DIR of `rmtd`: drives with stacks that are folders. A plain value is what
-- contracts use for a value that the code has in memory. Public contracts cite it.
use Rattle.std.specs.Prelude.{◌≤◌, ◌<◌, ◌==◌, ◌≢◌, ℕ, Option, IsSome, List, length, map}
use Rattle.std.specs.Borrow.{Bor}
use Rattle.std.specs.Int.{IsInRange}
use Rattle.std.specs.List.{All, AllPairs, before_first, after_first}
use Rattle.clap.specs.Words.{Text}
use Rattle.rmt_wire.specs.Number.{HasNoLineFeed}
use Rattle.rmtd_args.specs.declared.drive_argument.DriveArgument.{DriveArgument}

-- the name by which clients open a drive, and the folder of its stack
pub record PlainDrive : Type 0 where
  pub device : Text
  pub folder : Text

-- the plain value of a `DriveArgument`
abbrev pub plain_drive : DriveArgument → PlainDrive
plain_drive d = record { device = d.device.now; folder = d.folder.now }

-- the byte `=`
abbrev pub equals_sign : ℕ
equals_sign = 61

-- an argument split at its first `=`; without a `=` the folder is empty
abbrev pub split_of : Text → PlainDrive
split_of argument = record {
  device = before_first (λ b. b == equals_sign) argument;
  folder = after_first (λ b. b == equals_sign) argument;
}

-- the drives that the arguments give, in order
abbrev pub drives_given : List (Bor Text) → List PlainDrive
drives_given arguments = map split_of (map (λ s. s.now) arguments)

-- the device is 1 to 255 bytes of one line, and the folder is not empty
abbrev pub IsDrive : PlainDrive → Type 0
IsDrive d = IsInRange 1 255 (length d.device) × HasNoLineFeed d.device × (0 < length d.folder)

-- each drive has its own device
abbrev pub HaveOwnDevices : List PlainDrive → Type 0
HaveOwnDevices drives = AllPairs (λ d e. d.device ≢ e.device) drives

-- how many drives there may be, at most
abbrev pub drive_limit : ℕ
drive_limit = 64

-- the drives, and the folder of the bin if one is given, keep the rules
pub record KeepsDriveRules (bin : Option Text) (drives : List PlainDrive) : Type 0 where
  pub each : All IsDrive drives
  pub differ : HaveOwnDevices drives
  pub few : length drives ≤ drive_limit
  pub has_bin : 0 < length drives → IsSome bin
