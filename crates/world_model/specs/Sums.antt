-- The sums of counted reels. Public contracts cite it.
use Rattle.std.specs.Prelude.{◌≡◌, List, Contains, Some}
use Rattle.tape.specs.Tape.{PlainEntry}
use Rattle.volume_check.specs.Volume.{file_sum, volume_sum}
use Rattle.world_model.specs.World.{World, Begun, Count, numbered}
use Rattle.world_model.specs.Standing.{ReelHolds}
use Rattle.world_model.specs.Headline.{IsNotReopened}

-- The reel of the count holds a list of entries. Each list that it holds has the sum of the count's
-- volume: `file_sum` is the SHA-256 of the record file that has these entries and nothing else. The
-- volume is of the run `b`.
pub record HasCountedSum (w : World) (x : Count) (b : Begun) : Type 0 where
  pub entries : List PlainEntry
  pub holds : ReelHolds w.server x.reel entries
  pub sums : (found : List PlainEntry) → ReelHolds w.server x.reel found
      → file_sum found ≡ volume_sum b.run b.payload x.volume x.first x.count

-- Each reel that was counted and not reopened has the sum of its volume. The volume is of the run
-- that was begun under the run number in the count.
abbrev pub CountedSums : World → Type 0
CountedSums w = (x : Count) (b : Begun) → Contains w.counts x → numbered w.begun x.run ≡ Some b → IsNotReopened w x → HasCountedSum w x b
