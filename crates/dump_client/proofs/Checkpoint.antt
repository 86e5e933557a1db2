-- Where the next volume begins.
use Rattle.dump_client.proofs.Attempt.{◌≡◌, inl, ℕ, ◌+◌, ◌-◌, ◌<◌, ◌≤◌, List, [], ◌∷◌, ◌++◌, length, length-append, refl, arith, IsCount, Covers, CoversFrom, checkpoint_after, count_to, counted_to, PlainRun, checkpoint_of, VolumeCount, AreVolumes, IsUnfinishedRun}
use Rattle.dump_run.proofs.Ordering.{checkpoint_behind, volumes_more}

-- the checkpoint is after the last count
pub behind_last : (counts : List VolumeCount) (c : VolumeCount) (rest : List VolumeCount) → counts ≡ rest ++ c ∷ [] → checkpoint_of counts ≡ (c.volume + 1, c.first + c.count)
behind_last counts c rest h = rw h (checkpoint_behind 1 0 rest c)

-- the checkpoint is within the run
pub first_within : (run : PlainRun) (volume first : ℕ) (counts : List VolumeCount) → first ≤ run.blocks → AreVolumes run volume first counts
    → (checkpoint_after volume first counts).1 ≤ run.blocks
first_within run volume first [] h v = h
first_within run volume first (c ∷ counts) h v =
    first_within run (c.volume + 1) (c.first + c.count) counts (grind (arith, v.1, v.2)) (rw (v.0, v.1) v.4)

-- each volume but the last has a block, so that there are hardly more volumes than blocks
pub volume_within : (run : PlainRun) (volume first : ℕ) (counts : List VolumeCount) → volume ≤ first + 1 → first ≤ run.blocks → AreVolumes run volume first counts
    → (checkpoint_after volume first counts).0 ≤ run.blocks + 2
volume_within run volume first [] at h v = omega arith
volume_within run volume first (c ∷ []) at h v = omega (arith, v.0)
volume_within run volume first (c ∷ d ∷ counts) at h v =
    volume_within run (c.volume + 1) (c.first + c.count) (d ∷ counts) (grind (arith, v.0, v.1, v.2, v.3)) (grind (arith, v.1, v.2))
    (rw (v.0, v.1) v.4)

pub last_within : (run : PlainRun) (counts : List VolumeCount) → AreVolumes run 1 0 counts
    → ((checkpoint_of counts).0 ≤ run.blocks + 2) × ((checkpoint_of counts).1 ≤ run.blocks)
last_within run counts v = (volume_within run 1 0 counts (omega arith) (omega arith) v, first_within run 1 0 counts (omega arith) v)

-- the counts cover the blocks up to the checkpoint
covers_from : (run : PlainRun) (volume first : ℕ) (counts : List VolumeCount) → AreVolumes run volume first counts
    → (checkpoint_after volume first counts).1 ≡ run.blocks → CoversFrom run.blocks volume first counts
covers_from run volume first [] v h = h
covers_from run volume first (c ∷ counts) v h =
    (v.0, v.1, covers_from run (volume + 1) (first + c.count) counts v.4 (rw (v.0, v.1) at h))

covered_to : (blocks volume first : ℕ) (counts : List VolumeCount) → CoversFrom blocks volume first counts → (checkpoint_after volume first counts).1 ≡ blocks
covered_to blocks volume first [] h = h
covered_to blocks volume first (c ∷ counts) h = rw (h.0, h.1) (covered_to blocks (volume + 1) (first + c.count) counts h.2)

pub covers_at : (run : PlainRun) (counts : List VolumeCount) → AreVolumes run 1 0 counts → 0 < length counts → (checkpoint_of counts).1 ≡ run.blocks → Covers run counts
covers_at run counts v some h = (some, covers_from run 1 0 counts v h)

pub covers_up_to : (run : PlainRun) (counts : List VolumeCount) → Covers run counts → (checkpoint_of counts).1 ≡ run.blocks
covers_up_to run counts h = covered_to run.blocks 1 0 counts h.1

-- a run that its counts do not cover is not finished
pub left_of : (run : PlainRun) (counts : List VolumeCount) → AreVolumes run 1 0 counts → (Covers run counts → ⊥) → IsUnfinishedRun run counts
left_of run [] v h = inl refl
left_of run (c ∷ counts) v h = grind (arith, (last_within run (c ∷ counts) v).1, covers_at run (c ∷ counts) v)

-- the counts with that of the next volume are volumes in order
pub volumes_to : (run : PlainRun) (counts : List VolumeCount) (next : ℕ) → AreVolumes run 1 0 counts → IsUnfinishedRun run counts
    → IsCount run (checkpoint_of counts).1 (next - (checkpoint_of counts).1) → AreVolumes run 1 0 (counted_to counts next)
volumes_to run counts next v left h =
    volumes_more run 1 0 counts (count_to (checkpoint_of counts) next) v (record { volume = refl; first = refl; count = h; left = left })

pub counted_some : (counts : List VolumeCount) (next : ℕ) → 0 < length (counted_to counts next)
counted_some counts next = simp length-append (omega arith)
