-- The copy of a reel, and how it is made. `accepted` is whether a call succeeded. Public contracts
-- cite it.
use Rattle.std.specs.Prelude.{◌≡◌, ℕ, Bool, true, false, List, [], ◌++◌, Option, Some}
use Rattle.std.specs.Option.{option_map}
use Rattle.dump_run.specs.Label.{PlainLabel}

-- A copy: the label that it is made for, and its bytes.
pub record PlainCopy : Type 0 where
  pub label : PlainLabel
  pub bytes : List ℕ

-- the copy of this label that has these bytes
abbrev pub plain_copy : PlainLabel → List ℕ → PlainCopy
plain_copy label bytes = record { label = label; bytes = bytes }

-- the copy with these bytes after its own
abbrev pub with_bytes : List ℕ → PlainCopy → PlainCopy
with_bytes bytes copy = plain_copy copy.label (copy.bytes ++ bytes)

-- A copy of this label was begun. After a failed call nothing is known of the copy.
abbrev pub IsCopyBegun : PlainLabel → Bool → Option PlainCopy → Option PlainCopy → Type 0
IsCopyBegun label true old new = new ≡ Some (plain_copy label [])
IsCopyBegun label false old new = Unit {0}

-- The bytes were added to the copy. After a failed call nothing is known of the copy.
abbrev pub IsCopyAdded : List ℕ → Bool → Option PlainCopy → Option PlainCopy → Type 0
IsCopyAdded bytes true old new = new ≡ option_map (with_bytes bytes) old
IsCopyAdded bytes false old new = Unit {0}

-- What a kind of copy promises. `holds` relates a file to the copy that is made, if that is known.
-- `synced` relates it to a copy whose bytes are on the disk, `placed` to one that also has its name
-- there, and `kept` to one whose name is on the disk too.
pub record CopyKind (F : Type 0) : Type 1 where
  pub holds : F → Option PlainCopy → Type 0
  pub synced : F → PlainCopy → Type 0
  pub placed : F → PlainCopy → Type 0
  pub kept : F → PlainCopy → Type 0

-- a kind of copy with these promises
abbrev pub copy_kind : {F : Type 0} → (F → Option PlainCopy → Type 0) → (F → PlainCopy → Type 0) → (F → PlainCopy → Type 0) → (F → PlainCopy → Type 0)
    → CopyKind F
copy_kind holds synced placed kept = record { holds = holds; synced = synced; placed = placed; kept = kept }
