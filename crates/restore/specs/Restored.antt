-- What a restored payload is. `reels` are the bytes of a shelf's reels. Public contracts cite it.
use Rattle.std.specs.Prelude.{◌≡◌, ◌≢◌, ◌⊎◌, ℕ, ◌+◌, ◌*◌, ◌<◌, ◌≤◌, List, [], ◌∷◌, All, Contains, Option, Some, None, IfSome, flat_map, get_or, length, take}
use Rattle.std.specs.Prelude.{map}
use Rattle.std.specs.Global.{Global}
use Rattle.std.specs.List.{concat}
use Rattle.std.specs.declared.vec.Vec.{Vec}
use Rattle.rmt_wire.specs.Counted.{Counting}
use Rattle.rmt_wire.specs.ReplyWriter.{AppendsBeginning}
use Rattle.sha2.specs.Sha256.{sha256}
use Rattle.dump_run.specs.DumpId.{PlainId}
use Rattle.dump_run.specs.Label.{PlainLabel, id_of}
use Rattle.catalog.specs.Verdict.{IsVerdict}
use Rattle.catalog.specs.declared.line.CatalogLine.{CatalogLine}
use Rattle.catalog.specs.declared.verdict.SumVerdict.TheVariants.{Equal}
use Rattle.restore.specs.Volumes.{HasVolume, volume_label}
use Rattle.restore.specs.declared.fault.RestoreFault.{RestoreFault}
use Rattle.restore.specs.declared.fault.RestoreFault.TheVariants.{Refused, Reel, Output}

-- the view of a `Wanted`
pub record PlainWanted : Type 0 where
  pub name : Option (List ℕ)
  pub level : Option ℕ
  pub date : Option ℕ
  pub length : ℕ
  pub volumes : Option ℕ
  pub lines : Option (List CatalogLine)

-- the dump is one that is wanted: it has the name, level and date that are given
abbrev pub Fits : PlainWanted → PlainId → Type 0
Fits wanted id =
    IfSome wanted.name (λ name. id.name ≡ name) × IfSome wanted.level (λ level. id.level ≡ level) × IfSome wanted.date (λ date. id.date ≡ date)

-- A whole volume with this label and these bytes is taken. With a catalog its SHA-256 must be that
-- of a line that is in force.
abbrev pub IsTaken : Option (List CatalogLine) → PlainLabel → List ℕ → Type 0
IsTaken None label bytes = Unit {0}
IsTaken (Some lines) label bytes = IsVerdict lines label (sha256 bytes) Equal

-- a volume of a dump: the number of its reel, the size of its blocks, and the blocks
pub record Place : Type 0 where
  pub reel : ℕ
  pub size : ℕ
  pub blocks : List (List ℕ)

-- The places are reels with whole volumes of one dump. The first has this volume, which begins at
-- this block. Each further one has the next volume, which begins where the one before it ends.
abbrev pub ArePlaces : List (List ℕ) → PlainId → ℕ → ℕ → List Place → Type 0
ArePlaces reels id volume first [] = Unit {0}
ArePlaces reels id volume first (p ∷ ps) =
    HasVolume reels p.reel (volume_label id volume first) p.size p.blocks × ArePlaces reels id (volume + 1) (first + length p.blocks) ps

-- Each of the volumes is taken. With a catalog the sum of each reel is that of a line in force.
abbrev pub AreTakenPlaces : List (List ℕ) → Option (List CatalogLine) → PlainId → ℕ → ℕ → List Place → Type 0
AreTakenPlaces reels lines id volume first [] = Unit {0}
AreTakenPlaces reels lines id volume first (p ∷ ps) =
    IsTaken lines (volume_label id volume first) (get_or reels p.reel []) × AreTakenPlaces reels lines id (volume + 1) (first + length p.blocks) ps

-- the blocks of all these volumes, in order
abbrev pub blocks_in : List Place → List (List ℕ)
blocks_in places = flat_map (λ p. p.blocks) places

-- A payload of so many bytes ends in the last of `count` blocks of this size.
abbrev pub IsLengthOf : ℕ → ℕ → ℕ → Type 0
IsLengthOf bytes size count = (bytes ≤ count * size) × ((count ≡ 0) ⊎ (count * size < bytes + size))

-- The bytes are the payload of a dump that is wanted. The reels have all its volumes, from the first
-- one to the one in which the payload ends.
pub record IsRestored (reels : List (List ℕ)) (wanted : PlainWanted) (bytes : List ℕ) : Type 0 where
  pub id : PlainId
  pub size : ℕ
  pub places : List Place
  pub fits : Fits wanted id
  pub some : places ≢ []
  pub placed : ArePlaces reels id 1 0 places
  -- There are as many volumes as the dump has, if their number is known.
  pub many : IfSome wanted.volumes (λ count. length places ≡ count)
  pub taken : AreTakenPlaces reels wanted.lines id 1 0 places
  -- All blocks have one size, and the payload ends in the last block.
  pub sizes : All (λ block. length block ≡ size) (blocks_in places)
  pub ends : IsLengthOf wanted.length size (length (blocks_in places))
  -- No other reel has a whole volume of a dump that is wanted, unless the reel has the same bytes.
  -- With a catalog, reels that are not taken may have such a volume.
  pub only : (number : ℕ) (label : PlainLabel) (size : ℕ) (blocks : List (List ℕ)) → HasVolume reels number label size blocks → Fits wanted (id_of label)
      → IsTaken wanted.lines label (get_or reels number []) → (p : Place) × Contains places p × (get_or reels p.reel [] ≡ get_or reels number [])
  pub bytes_are : bytes ≡ take wanted.length (concat (blocks_in places))

-- A call that refuses changes the output in no way.
abbrev pub IsUntouched : {W : Type 0} → RestoreFault → Counting W → Counting W → Type 0
IsUntouched (Refused refusal) old new = new ≡ old
IsUntouched (Reel reel) old new = Unit {0}
IsUntouched Output old new = Unit {0}

-- A call that fails after that has written a beginning of the payload.
abbrev pub IsBroken : List (List ℕ) → PlainWanted → Option (List ℕ) → Option (List ℕ) → RestoreFault → Type 0
IsBroken reels wanted old new (Refused refusal) = Unit {0}
IsBroken reels wanted old new (Reel reel) = (bytes : List ℕ) × IsRestored reels wanted bytes × AppendsBeginning old new bytes
IsBroken reels wanted old new Output = (bytes : List ℕ) × IsRestored reels wanted bytes × AppendsBeginning old new bytes

-- the bytes of each reel in memory
abbrev pub bytes_of : Vec (Vec ℕ Global) Global → List (List ℕ)
bytes_of reels = map (λ reel. reel.items) reels.items
