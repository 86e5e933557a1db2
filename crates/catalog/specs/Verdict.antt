-- The comparison of a volume's sum with the lines of a catalog. Public contracts cite it.
use Rattle.std.specs.Prelude.{◌≡◌, ◌⊎◌, ℕ, ◌+◌, List, Any, codes, drop, take}
use Rattle.dump_run.specs.Label.{PlainLabel, id_of}
use Rattle.catalog.specs.Run.{Begins, HasNone, IsInForce, IsLast}
use Rattle.catalog.specs.SumLine.{PlainSumLine}
use Rattle.catalog.specs.declared.line.CatalogLine.{CatalogLine}
use Rattle.catalog.specs.declared.line.CatalogLine.TheVariants.{Begun, Volume, Finished}
use Rattle.catalog.specs.declared.verdict.SumVerdict.{SumVerdict}
use Rattle.catalog.specs.declared.verdict.SumVerdict.TheVariants.{Equal, Differs, Anew, Void, Unknown}

-- the line is that of a volume with this label and this sum
abbrev pub IsSumOf : PlainLabel → List ℕ → CatalogLine → Type 0
IsSumOf label sum (Begun b) = ⊥
IsSumOf label sum (Volume v) = (v.label ≡ label) × (v.sum ≡ sum)
IsSumOf label sum (Finished f) = ⊥

-- a line has this label and this sum
abbrev pub HasSum : List CatalogLine → PlainLabel → List ℕ → Type 0
HasSum lines label sum = Any (IsSumOf label sum) lines

-- a line that is in force has this label
abbrev pub KnowsLabel : List CatalogLine → PlainLabel → Type 0
KnowsLabel after label = (v : PlainSumLine) × IsInForce after (id_of label) v × (v.label ≡ label)

-- a line that is in force has this label and this sum
abbrev pub KnowsSum : List CatalogLine → PlainLabel → List ℕ → Type 0
KnowsSum after label sum = (v : PlainSumLine) × IsInForce after (id_of label) v × (v.label ≡ label) × (v.sum ≡ sum)

-- The verdict, given the lines before and after the last one with which the dump began. It is
-- `Equal` if a line that is in force has the label and the sum. Otherwise it is `Anew` if a line
-- from before the dump began anew has both, and `Void` if a line that is no longer in force has
-- both. Otherwise it is `Differs` if a line that is in force has the label.
abbrev pub IsRunVerdict : List CatalogLine → List CatalogLine → PlainLabel → List ℕ → SumVerdict → Type 0
IsRunVerdict before after label sum Equal = KnowsSum after label sum
IsRunVerdict before after label sum Anew = (KnowsSum after label sum → ⊥) × HasSum before label sum
IsRunVerdict before after label sum Void =
    (KnowsSum after label sum → ⊥) × (HasSum before label sum → ⊥) × HasSum after label sum
IsRunVerdict before after label sum Differs =
    (HasSum before label sum → ⊥) × (HasSum after label sum → ⊥) × KnowsLabel after label
IsRunVerdict before after label sum Unknown =
    (HasSum before label sum → ⊥) × (HasSum after label sum → ⊥) × (KnowsLabel after label → ⊥)

-- The verdict on a label and a sum. It is `Unknown` if no line says that the dump began.
abbrev pub IsVerdict : List CatalogLine → PlainLabel → List ℕ → SumVerdict → Type 0
IsVerdict lines label sum verdict =
    (HasNone (Begins (id_of label)) lines × (verdict ≡ Unknown))
    ⊎ ((at : ℕ) × IsLast (Begins (id_of label)) lines at × IsRunVerdict (take at lines) (drop (at + 1) lines) label sum verdict)

-- a verdict in words
abbrev pub verdict_words : SumVerdict → List ℕ
verdict_words Equal = codes "sum equal"
verdict_words Differs = codes "sum differs"
verdict_words Anew = codes "of a dump that was begun anew"
verdict_words Void = codes "of a volume that was written again"
verdict_words Unknown = codes "no sum known"
