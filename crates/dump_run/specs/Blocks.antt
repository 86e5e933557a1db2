-- Sources of the blocks of a run. Public contracts cite it.
use Rattle.std.specs.Prelude.{◌≡◌, ℕ, zero, suc, ◌<◌, Bool, true, false, List, [], ◌∷◌, length, get_or, take, drop, Result, Ok, Err}
use Rattle.rmt_wire.specs.Counted.{raised}
use Rattle.dump_run.specs.declared.blocks.SourceFailed.{SourceFailed}

-- block `n` exists, and has length `len`
abbrev pub HasBlock : List (List ℕ) → ℕ → ℕ → Type 0
HasBlock blocks n len = (n < length blocks) × (length (get_or blocks n []) ≡ len)

-- If the read of block `n` succeeded, `given` is that block. After a failed read, `given` may be
-- anything.
abbrev pub GivesBlock : Result Unit SourceFailed → List (List ℕ) → ℕ → List ℕ → Type 0
GivesBlock (Ok x) blocks n given = given ≡ get_or blocks n []
GivesBlock (Err failed) blocks n given = Unit {0}

-- the number of failed reads after a read: a failed read is counted, and no other
abbrev pub counted_after : Result Unit SourceFailed → ℕ → ℕ
counted_after (Ok x) failures = failures
counted_after (Err failed) failures = raised failures

-- a payload cut into a number of blocks of this size, from its beginning
abbrev pub cut_blocks : ℕ → ℕ → List ℕ → List (List ℕ)
cut_blocks zero size payload = []
cut_blocks (suc n) size payload = take size payload ∷ cut_blocks n size (drop size payload)

-- a payload in memory: its blocks, whether reads fail, and how many have failed
pub record ListedBlocks : Type 0 where
  pub blocks : List (List ℕ)
  pub troubled : Bool
  pub failures : ℕ

-- makes a `ListedBlocks`
abbrev pub listed : List (List ℕ) → Bool → ℕ → ListedBlocks
listed blocks troubled failures = record { blocks = blocks; troubled = troubled; failures = failures }

-- `blocks` are the blocks of the payload in memory, which are always known
abbrev pub AreBlocksOf : ListedBlocks → List (List ℕ) → Type 0
AreBlocksOf source blocks = source.blocks ≡ blocks

-- One read of a payload in memory. Without the injected fault it gives the block and changes
-- nothing. With it the read fails, gives nothing and is counted.
abbrev pub ListedRead : ListedBlocks → ℕ → List ℕ → Result Unit SourceFailed → ListedBlocks → List ℕ → Type 0
ListedRead old n into (Ok x) new given = (old.troubled ≡ false) × (new ≡ old) × (given ≡ get_or old.blocks n [])
ListedRead old n into (Err failed) new given =
    (old.troubled ≡ true) × (new ≡ listed old.blocks true (raised old.failures)) × (given ≡ into)
