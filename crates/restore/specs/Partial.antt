-- What is restored of a dump of which blocks are missing. `reels` are the bytes of a shelf's reels. Public contracts cite it.
use Rattle.std.specs.Prelude.{◌≡◌, ◌≢◌, ℕ, zero, suc, ◌+◌, ◌-◌, ◌*◌, ◌≤◌, List, [], ◌∷◌, ◌++◌, Contains, Option, Some, None, flat_map, get_or, length, replicate, take}
use Rattle.std.specs.Int.{div_ceil}
use Rattle.std.specs.List.{concat}
use Rattle.rmt_wire.specs.ReplyWriter.{AppendsBeginning}
use Rattle.dump_run.specs.DumpId.{PlainId}
use Rattle.dump_run.specs.Label.{PlainLabel, id_of}
use Rattle.catalog.specs.declared.line.CatalogLine.{CatalogLine}
use Rattle.restore.specs.Restored.{PlainWanted, Fits, IsTaken}
use Rattle.restore.specs.Volumes.{HasVolume, volume_label}
use Rattle.restore.specs.declared.fault.RestoreFault.{RestoreFault}
use Rattle.restore.specs.declared.fault.RestoreFault.TheVariants.{Refused, Reel, Output}
use Rattle.restore.specs.declared.gap.Gap.{Gap}

-- A volume that a reel has: how many blocks are missing before it, its number, the number of its
-- reel, and its blocks.
pub record Part : Type 0 where
  pub missing : ℕ
  pub volume : ℕ
  pub reel : ℕ
  pub blocks : List (List ℕ)

-- The parts are reels with whole volumes of one dump, and each is taken. The first has at least this
-- volume number. It begins at or after this block. Each further one has a greater volume number than
-- the one before it, and begins at or after its end. All blocks have this size. If it is 0, no block
-- is missing.
abbrev pub AreParts : List (List ℕ) → Option (List CatalogLine) → PlainId → ℕ → ℕ → ℕ → List Part → Type 0
AreParts reels lines id size volume first [] = Unit {0}
AreParts reels lines id size volume first (p ∷ ps) =
    (volume ≤ p.volume) × HasVolume reels p.reel (volume_label id p.volume (first + p.missing)) size p.blocks
    × IsTaken lines (volume_label id p.volume (first + p.missing)) (get_or reels p.reel []) × (size ≡ 0 → p.missing ≡ 0)
    × AreParts reels lines id size (p.volume + 1) (first + p.missing + length p.blocks) ps

-- the block at which the last of these parts ends, if the first one's missing blocks begin at `first`
abbrev pub end_of : ℕ → List Part → ℕ
end_of first [] = first
end_of first (p ∷ ps) = end_of (first + p.missing + length p.blocks) ps

-- so many zero bytes
abbrev pub zeros : ℕ → List ℕ
zeros count = replicate count 0

-- the blocks of all parts, with zero bytes for each missing block
abbrev pub filled : ℕ → List Part → List ℕ
filled size parts = flat_map (λ p. zeros (p.missing * size) ++ concat p.blocks) parts

-- the bytes, cut at the length that is asked, or followed by zero bytes up to this length
abbrev pub of_length : Option ℕ → List ℕ → List ℕ
of_length None bytes = bytes
of_length (Some asked) bytes = take asked (bytes ++ zeros asked)

-- a range of so many blocks from this one on, if there is a block
abbrev pub gap_at : ℕ → ℕ → List Gap
gap_at first zero = []
gap_at first (suc more) = record { first = first; end = first + suc more } ∷ []

-- the ranges of missing blocks before the parts
abbrev pub gaps_before : ℕ → List Part → List Gap
gaps_before first [] = []
gaps_before first (p ∷ ps) = gap_at first p.missing ++ gaps_before (first + p.missing + length p.blocks) ps

-- How many blocks of this size so many bytes need. If the size is 0, there are none.
abbrev pub blocks_for : ℕ → ℕ → ℕ
blocks_for zero bytes = 0
blocks_for (suc size) bytes = div_ceil bytes (suc size)

-- the range of missing blocks from the end of the last part to the length that is asked
abbrev pub gap_behind : Option ℕ → ℕ → ℕ → List Gap
gap_behind None size end = []
gap_behind (Some asked) size end = gap_at end (blocks_for size asked - end)

-- The bytes are what can be had of a dump that is wanted, and the gaps are the ranges of its missing
-- blocks. If a length is asked, the bytes have this length.
pub record IsPartial (reels : List (List ℕ)) (wanted : PlainWanted) (asked : Option ℕ) (bytes : List ℕ) (gaps : List Gap) : Type 0 where
  pub id : PlainId
  pub size : ℕ
  pub parts : List Part
  pub fits : Fits wanted id
  pub some : parts ≢ []
  pub placed : AreParts reels wanted.lines id size 1 0 parts
  -- No other reel has a whole volume of a dump that is wanted, unless the reel has the same bytes.
  -- With a catalog, reels that are not taken may have such a volume.
  pub only : (number : ℕ) (label : PlainLabel) (size : ℕ) (blocks : List (List ℕ)) → HasVolume reels number label size blocks → Fits wanted (id_of label)
      → IsTaken wanted.lines label (get_or reels number []) → (p : Part) × Contains parts p × (get_or reels p.reel [] ≡ get_or reels number [])
  pub bytes_are : bytes ≡ of_length asked (filled size parts)
  pub gaps_are : gaps ≡ gaps_before 0 parts ++ gap_behind asked size (end_of 0 parts)

-- A call that fails after the first byte has written a beginning of such bytes.
abbrev pub IsBrokenOff : List (List ℕ) → PlainWanted → Option ℕ → Option (List ℕ) → Option (List ℕ) → RestoreFault → Type 0
IsBrokenOff reels wanted asked old new (Refused refusal) = Unit {0}
IsBrokenOff reels wanted asked old new (Reel reel) =
    (bytes : List ℕ) × (gaps : List Gap) × IsPartial reels wanted asked bytes gaps × AppendsBeginning old new bytes
IsBrokenOff reels wanted asked old new Output =
    (bytes : List ℕ) × (gaps : List Gap) × IsPartial reels wanted asked bytes gaps × AppendsBeginning old new bytes
