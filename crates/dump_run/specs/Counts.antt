-- The counted volumes of a run, in order, and where the next one begins. A count is the record of a
-- volume that was written whole: its number, its first block and its number of blocks. Public
-- contracts cite it.
use Rattle.std.specs.Prelude.{◌≡◌, ◌⊎◌, ℕ, ◌+◌, ◌<◌, ◌≤◌, List, [], ◌∷◌, length}
use Rattle.dump_run.specs.Run.{PlainRun}
use Rattle.dump_run.specs.declared.count.VolumeCount.{VolumeCount}

-- the number of blocks of a volume that begins at `first`: it has one or more, unless the run has
-- none
abbrev pub IsCount : PlainRun → ℕ → ℕ → Type 0
IsCount run first count = (first + count ≤ run.blocks) × ((0 < count) ⊎ (run.blocks ≡ 0))

-- The counts are volumes of the run, beginning with this one. Each begins right after the one
-- before, and another follows only if blocks are left.
abbrev pub AreVolumes : PlainRun → ℕ → ℕ → List VolumeCount → Type 0
AreVolumes run volume first [] = Unit {0}
AreVolumes run volume first (c ∷ counts) =
    (c.volume ≡ volume) × (c.first ≡ first) × IsCount run first c.count × ((counts ≡ []) ⊎ (first + c.count < run.blocks))
    × AreVolumes run (volume + 1) (first + c.count) counts

-- From this volume and block on, each count begins right after the one before, and the last ends
-- with the run, which has `blocks` blocks. A count may have no block.
abbrev pub CoversFrom : ℕ → ℕ → ℕ → List VolumeCount → Type 0
CoversFrom blocks volume first [] = first ≡ blocks
CoversFrom blocks volume first (c ∷ counts) =
    (c.volume ≡ volume) × (c.first ≡ first) × CoversFrom blocks (volume + 1) (first + c.count) counts

-- there is a count, and the counted volumes are the whole run, in order
abbrev pub Covers : PlainRun → List VolumeCount → Type 0
Covers run counts = (0 < length counts) × CoversFrom run.blocks 1 0 counts

-- the next volume and its first block, after these counts
abbrev pub checkpoint_after : ℕ → ℕ → List VolumeCount → ℕ × ℕ
checkpoint_after volume first [] = (volume, first)
checkpoint_after volume first (c ∷ counts) = checkpoint_after (c.volume + 1) (c.first + c.count) counts

-- the next volume and its first block, after all counts of a run
abbrev pub checkpoint_of : List VolumeCount → ℕ × ℕ
checkpoint_of counts = checkpoint_after 1 0 counts
