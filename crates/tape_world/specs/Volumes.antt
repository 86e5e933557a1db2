-- The entries of reels that were counted, as `entry` returns them. Public contracts cite it.
use Rattle.std.specs.Prelude.{◌≡◌, Contains, Some}
use Rattle.world_model.specs.World.{World, Begun, Count, numbered}
use Rattle.world_model.specs.Written.{whole_volume}
use Rattle.world_model.specs.Headline.{IsNotReopened}
use Rattle.tape_world.specs.Entries.{entries_on}

-- Each reel that was counted and not reopened has exactly the entries of its volume. The volume is
-- of the run that was begun under the count's number.
abbrev pub TellsVolumes : World → Type 0
TellsVolumes w =
    (x : Count) (b : Begun) → Contains w.counts x → numbered w.begun x.run ≡ Some b → IsNotReopened w x
    → entries_on w.server x.reel ≡ Some (whole_volume b.run b.payload x.volume x.first x.count)
