-- The headline: three statements that hold after every list of events, and the definitions that
-- they use. Public contracts cite it.
--
-- `World::kept` of the crate `tape_world` states `Headline` of each `World`. The counts of a world
-- are the client's: they grow only as the client's own list does (`counts_grow`), and have each
-- volume of that list under the number of its run (`clients_counts`). The list that goes with an
-- open is the one that the client had then, whoever made the open, and empty without a client.
use Rattle.std.specs.Prelude.{◌≡◌, ℕ, ◌+◌, ◌<◌, ◌≤◌, List, [], Contains, Some}
use Rattle.dump_client.specs.Position.{Covers}
use Rattle.dump_run.specs.Counts.{AreVolumes}
use Rattle.dump_run.specs.declared.count.VolumeCount.{VolumeCount}
use Rattle.world_model.specs.World.{World, AttemptState, Begun, Count, Opening, Entered, numbered}
use Rattle.world_model.specs.Changes.{opening, HasDump}
use Rattle.world_model.specs.History.{HasCountOf, AreCountedIn, dates_after}
use Rattle.world_model.specs.Standing.{HasReel, ReelHoldsJust, HasOpen}
use Rattle.world_model.specs.Written.{whole_volume}

-- 1. A reel that the client counted holds the records of its volume and one mark, and nothing else.
-- The exception: after the count's connection opened the reel, a later open of it for writing was
-- not the dump's own (`IsOwnOpen`).

-- The opening `o`, number `m` of the list, is the dump's own for the count `x`. Its connection is
-- one of the client's, in an attempt of the count's run. The list that the client had at that open
-- has a count of that volume and first block.
abbrev pub IsOwnOpen : World → Count → ℕ → Opening → Type 0
IsOwnOpen w x m o =
    (d : AttemptState) × HasDump w o.connection d × (d.run ≡ x.run)
    × (list : List VolumeCount) × (numbered w.lists m ≡ Some list) × HasCountOf list x.volume x.first

-- The count's connection opened the reel for writing, and every later open of that reel for writing
-- is the dump's own. One by a stranger, by another run, or by a client whose list lacks that count
-- is not.
abbrev pub IsNotReopened : World → Count → Type 0
IsNotReopened w x = (i : ℕ) × (numbered w.opens i ≡ Some (opening x.connection x.reel))
    × ((m : ℕ) (o : Opening) → i < m → numbered w.opens m ≡ Some o → o.reel ≡ x.reel → IsOwnOpen w x m o)

-- The run of the count was begun and has the blocks of the count. The count's connection opened the
-- reel for writing, and the library still has a reel of that name. If the reel was not reopened, it
-- holds the whole volume of the count, and nothing else.
pub record IsOnItsReel (w : World) (x : Count) : Type 0 where
  pub begun : Begun
  pub begun_as : numbered w.begun x.run ≡ Some begun
  pub within : x.first + x.count ≤ begun.run.blocks
  pub opened : Contains w.opens (opening x.connection x.reel)
  pub there : HasReel w.server.library x.reel
  pub whole : IsNotReopened w x → ReelHoldsJust w.server x.reel (whole_volume begun.run begun.payload x.volume x.first x.count)

-- Statement 1: every count is on its reel.
abbrev pub CountedReels : World → Type 0
CountedReels w = (x : Count) → Contains w.counts x → IsOnItsReel w x

-- 2. No two sessions have the same drive open, whether with its reel or, after MTOFFL, without it.
abbrev pub NoTwoHolders : World → Type 0
NoTwoHolders w = (j k d : ℕ) → HasOpen w.server j d → HasOpen w.server k d → j ≡ k

-- 3. Every dump that was entered in dumpdates has all its blocks on counted volumes, in order:
-- those of the list that the client had then. Each run was entered once. Dumpdates has the entries
-- of these runs, and no others.
--
-- `AreOnce`: no run was entered twice.
abbrev pub AreOnce : List Entered → Type 0
AreOnce es = (i j : ℕ) (e f : Entered) → numbered es i ≡ Some e → numbered es j ≡ Some f → e.run ≡ f.run → i ≡ j

-- The run was begun. The counts that the client had when the run was entered cover all its blocks,
-- in order, and none is of a volume without blocks, unless the run has no block. Each of them is
-- among the counts of that run.
abbrev pub IsEarned : World → Entered → Type 0
IsEarned w e =
    (b : Begun) × (numbered w.begun e.run ≡ Some b) × Covers b.run e.listed × AreVolumes b.run 1 0 e.listed
    × AreCountedIn w e.run e.listed

-- Statement 3: dumpdates is what entering these runs, in order, makes of an empty file. No run was
-- entered twice, and each was earned.
pub record DumpdatesGained (w : World) : Type 0 where
  pub dates : w.dates ≡ dates_after w.begun [] w.entered
  pub once : AreOnce w.entered
  pub earned : (e : Entered) → Contains w.entered e → IsEarned w e

-- the three statements
pub record Headline (w : World) : Type 0 where
  pub counted_reels : CountedReels w
  pub no_two_holders : NoTwoHolders w
  pub dumpdates_gained : DumpdatesGained w
