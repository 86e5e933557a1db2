-- The drives of a schedule. Plain data are the values that contracts use for what the code has in
-- memory. No public contract cites this.
use Rattle.std.specs.Prelude.{map}
use Rattle.world_model.specs.First.{PlainDriveSpec}
use Rattle.rsim_schedule.specs.declared.drive_line.DriveLine.{DriveLine}

-- a drive as plain data, from its line
abbrev pub plain_line : DriveLine → PlainDriveSpec
plain_line d = record { name = d.device.now; capacity = d.capacity; reels = map (λ n. n.now) d.reels.items }
