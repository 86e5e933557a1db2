-- The results of the functions that read a line. No public contract needs it.
use Rattle.std.specs.Prelude.{◌≡◌, ◌≢◌, ℕ, ◌<◌, ◌^◌, List, ◌∷◌, ◌++◌, decimal, Option, Some, None}
use Rattle.std.specs.Borrow.{Bor}
use Rattle.hex.specs.Hex.{encode_lower}
use Rattle.dump_run.specs.DumpId.{PlainId, IsDumpId}
use Rattle.dump_run.specs.Label.{PlainLabel}
use Rattle.dump_run.specs.CheckpointParts.{Lacks}
use Rattle.catalog.specs.SumLine.{PlainSumLine, IsSumLine, sum_line}
use Rattle.catalog.specs.DumpLines.{PlainBegun, PlainFinished, IsBegun, IsFinished, id_text, begun_text, finished_text}
use Rattle.catalog.specs.Line.{IsLine, line_text}
use Rattle.catalog.specs.declared.fields.Fields.{Fields}
use Rattle.catalog.specs.declared.line.CatalogLine.{CatalogLine}

-- if the bytes are `word`, a text without `end`, `end` and a rest, these are that text and that rest
abbrev pub CutsField : List ℕ → List ℕ → ℕ → Bor (List ℕ) × Bor (List ℕ) → Type 0
CutsField bytes word end p =
    (text more : List ℕ) → Lacks end text → bytes ≡ word ++ (text ++ end ∷ more) → (p.0.now ≡ text) × (p.1.now ≡ more)

-- if the bytes are `word`, a number, `end` and a rest, these are that number and that rest
abbrev pub CutsNumber : List ℕ → List ℕ → ℕ → ℕ × Bor (List ℕ) → Type 0
CutsNumber bytes word end p =
    (n : ℕ) (more : List ℕ) → n < 2 ^ 64 → bytes ≡ word ++ (decimal n ++ end ∷ more) → (p.0 ≡ n) × (p.1.now ≡ more)

-- these are the fields of this line
pub record AreFieldsOf (l : PlainSumLine) (f : Fields) : Type 0 where
  pub sum : f.sum.now ≡ encode_lower l.sum
  pub name : f.name.now ≡ l.label.name
  pub level : f.level ≡ l.label.level
  pub date : f.date ≡ l.label.date
  pub since : f.since ≡ l.label.since
  pub volume : f.volume ≡ l.label.volume
  pub first : f.first ≡ l.label.first
  pub blocks : f.blocks ≡ l.blocks
  pub block_bytes : f.block_bytes ≡ l.block_bytes

-- if the bytes begin with the text of a good line, these are its fields
abbrev pub FindsFields : List ℕ → Fields → Type 0
FindsFields bytes f =
    (l : PlainSumLine) (more : List ℕ) → IsSumLine l → bytes ≡ sum_line l ++ more → AreFieldsOf l f

-- if the fields are those of a good line, it is the label of this line
abbrev pub MakesLabel : Fields → Option PlainLabel → Type 0
MakesLabel f made = (l : PlainSumLine) → IsSumLine l → AreFieldsOf l f → made ≡ Some l.label

-- if the fields are those of a good line, it is this line
abbrev pub MakesLine : Fields → Option PlainSumLine → Type 0
MakesLine f made = (l : PlainSumLine) → IsSumLine l → AreFieldsOf l f → made ≡ Some l

-- the bytes begin with this text, or with no such text
abbrev pub FindsRest : List ℕ → List ℕ → Option (Bor (List ℕ)) → Type 0
FindsRest text bytes None = (more : List ℕ) → bytes ≢ text ++ more
FindsRest text bytes (Some rest) = bytes ≡ text ++ rest.now

-- if the bytes are `word`, the text of a dump, `end` and a rest, these are the dump and that rest
abbrev pub CutsId : List ℕ → List ℕ → ℕ → Option (PlainId × Bor (List ℕ)) → Type 0
CutsId bytes word end cut =
    (d : PlainId) (more : List ℕ) → IsDumpId d → bytes ≡ word ++ (id_text d ++ end ∷ more)
    → (rest : Bor (List ℕ)) × (cut ≡ Some (d, rest)) × (rest.now ≡ more)

-- if the bytes begin with the text of a good line of this kind, it is the line
abbrev pub ReadsBegun : List ℕ → Option PlainBegun → Type 0
ReadsBegun bytes made = (b : PlainBegun) (more : List ℕ) → IsBegun b → bytes ≡ begun_text b ++ more → made ≡ Some b

abbrev pub ReadsVolume : List ℕ → Option PlainSumLine → Type 0
ReadsVolume bytes made = (v : PlainSumLine) (more : List ℕ) → IsSumLine v → bytes ≡ sum_line v ++ more → made ≡ Some v

abbrev pub ReadsFinished : List ℕ → Option PlainFinished → Type 0
ReadsFinished bytes made = (f : PlainFinished) (more : List ℕ) → IsFinished f → bytes ≡ finished_text f ++ more → made ≡ Some f

-- if the bytes begin with the text of a good line, it is the line
abbrev pub ReadsLine : List ℕ → Option CatalogLine → Type 0
ReadsLine bytes made = (l : CatalogLine) (more : List ℕ) → IsLine l → bytes ≡ line_text l ++ more → made ≡ Some l

-- the bytes begin with the text of this line, or with that of no good line
abbrev pub FindsLine : List ℕ → Option (CatalogLine × Bor (List ℕ)) → Type 0
FindsLine bytes None = (l : CatalogLine) (more : List ℕ) → IsLine l → bytes ≢ line_text l ++ more
FindsLine bytes (Some p) = IsLine p.0 × (bytes ≡ line_text p.0 ++ p.1.now)
