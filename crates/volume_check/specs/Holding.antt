-- What a reel holds, as its entries show it: a volume, whole or not, nothing, or something else.
-- Public contracts cite it.
use Rattle.std.specs.Prelude.{◌≡◌, ◌≢◌, ◌⊎◌, ℕ, List, [], ◌∷◌, ◌++◌, All, length, map}
use Rattle.tape.specs.Tape.{PlainEntry}
use Rattle.tape.specs.Tape.PlainEntry.{Record, Mark}
use Rattle.dump_run.specs.Label.{PlainLabel, IsLabel, label_record}
use Rattle.volume_check.specs.declared.holding.Holding.{Holding}
use Rattle.volume_check.specs.declared.holding.Holding.TheVariants.{Empty, Volume, Foreign}
use Rattle.volume_check.specs.declared.holding.VolumeEnd.{VolumeEnd}
use Rattle.volume_check.specs.declared.holding.VolumeEnd.TheVariants.{NoMark, OneMark, MoreAfterMark}

-- What follows the blocks of a volume: nothing, one mark and nothing else, or a mark and more.
abbrev pub IsEnd : VolumeEnd → List PlainEntry → Type 0
IsEnd NoMark rest = rest ≡ []
IsEnd OneMark rest = rest ≡ Mark ∷ []
IsEnd MoreAfterMark rest = (entry : PlainEntry) × (more : List PlainEntry) × (rest ≡ Mark ∷ entry ∷ more)

-- The entries are a label, `count` blocks of `size` bytes each, and this end. Without a block the
-- size is 0.
pub record IsVolume (l : PlainLabel) (count size : ℕ) (end : VolumeEnd) (entries : List PlainEntry) : Type 0 where
  pub blocks : List (List ℕ)
  pub rest : List PlainEntry
  pub whole : entries ≡ Record (label_record l) ∷ (map Record blocks ++ rest)
  pub label : IsLabel l
  pub counted : count ≡ length blocks
  pub sizes : All (λ block. length block ≡ size) blocks
  pub none : blocks ≡ [] → size ≡ 0
  pub end_is : IsEnd end rest

-- A mark comes first.
pub record BeginsWithMark (entries : List PlainEntry) : Type 0 where
  pub rest : List PlainEntry
  pub whole : entries ≡ Mark ∷ rest

-- A record that is not a label comes first.
pub record BeginsWithoutLabel (entries : List PlainEntry) : Type 0 where
  pub bytes : List ℕ
  pub rest : List PlainEntry
  pub whole : entries ≡ Record bytes ∷ rest
  pub no_label : (l : PlainLabel) → IsLabel l → bytes ≢ label_record l

-- After a label come one or more records of one length, and then, before any mark, a record of
-- another length.
pub record HasTwoLengths (entries : List PlainEntry) : Type 0 where
  pub label : PlainLabel
  pub first : List ℕ
  pub blocks : List (List ℕ)
  pub other : List ℕ
  pub rest : List PlainEntry
  pub whole : entries ≡ Record (label_record label) ∷ (map Record (first ∷ blocks) ++ Record other ∷ rest)
  pub is_label : IsLabel label
  pub same : All (λ block. length block ≡ length first) blocks
  pub differs : length other ≢ length first

-- What the entries of a reel are: none at all, a volume, or something that is not a volume of a
-- dump.
abbrev pub IsHolding : Holding → List PlainEntry → Type 0
IsHolding Empty entries = entries ≡ []
IsHolding (Volume v) entries = IsVolume v.label v.blocks v.block_bytes v.end entries
IsHolding Foreign entries = BeginsWithMark entries ⊎ BeginsWithoutLabel entries ⊎ HasTwoLengths entries
