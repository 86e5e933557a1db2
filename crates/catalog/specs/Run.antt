-- The lines of a dump that are in force: those after the last line with which the dump began, but
-- for volumes that were written again. Public contracts cite it.
use Rattle.std.specs.Prelude.{◌≡◌, ◌⊎◌, ℕ, ◌+◌, ◌<◌, ◌≤◌, List, [], ◌∷◌, All, Option, Some, None, drop, get_or, length}
use Rattle.dump_run.specs.DumpId.{PlainId}
use Rattle.dump_run.specs.Label.{id_of}
use Rattle.catalog.specs.DumpLines.{PlainFinished}
use Rattle.catalog.specs.SumLine.{PlainSumLine}
use Rattle.catalog.specs.declared.line.CatalogLine.{CatalogLine}
use Rattle.catalog.specs.declared.line.CatalogLine.TheVariants.{Begun, Volume, Finished}
use Rattle.catalog.specs.declared.run.CatalogRun.{CatalogRun}

-- with this line the dump began
abbrev pub Begins : PlainId → CatalogLine → Type 0
Begins id (Begun b) = b.id ≡ id
Begins id (Volume v) = ⊥
Begins id (Finished f) = ⊥

-- the line is that of a volume of the dump, which has this number or an earlier one
abbrev pub IsUpTo : PlainId → ℕ → CatalogLine → Type 0
IsUpTo id number (Begun b) = ⊥
IsUpTo id number (Volume v) = (id_of v.label ≡ id) × (v.label.volume ≤ number)
IsUpTo id number (Finished f) = ⊥

-- the line is that of a volume of the dump, or says that the dump is finished
abbrev pub IsPastBegun : PlainId → CatalogLine → Type 0
IsPastBegun id (Begun b) = ⊥
IsPastBegun id (Volume v) = id_of v.label ≡ id
IsPastBegun id (Finished f) = f.id ≡ id

-- the line with this index is the last one of this kind
pub record IsLast (Kind : CatalogLine → Type 0) (lines : List CatalogLine) (at : ℕ) : Type 0 where
  pub within : at < length lines
  pub is : (l : CatalogLine) → Kind (get_or lines at l)
  pub last : (k : ℕ) (l : CatalogLine) → at < k → k < length lines → Kind (get_or lines k l) → ⊥

-- no line is of this kind
abbrev pub HasNone : (CatalogLine → Type 0) → List CatalogLine → Type 0
HasNone Kind lines = All (λ l. Kind l → ⊥) lines

-- The index is that of the last line of this kind, if there is one. No public contract needs it.
abbrev pub FindsLast : (CatalogLine → Type 0) → List CatalogLine → Option ℕ → Type 0
FindsLast Kind lines None = HasNone Kind lines
FindsLast Kind lines (Some at) = IsLast Kind lines at

-- The run is what follows the last line with which the dump began. Without a run there is no such
-- line.
abbrev pub IsRunIn : List CatalogLine → PlainId → Option CatalogRun → Type 0
IsRunIn lines id None = HasNone (Begins id) lines
IsRunIn lines id (Some run) = (at : ℕ) × IsLast (Begins id) lines at × ((l : CatalogLine) → get_or lines at l ≡ Begun run.begun.now)
    × (run.after.now ≡ drop (at + 1) lines)

-- The line of a volume is in force: no line that follows is that of the same volume of the dump, or
-- of an earlier one.
abbrev pub IsInForce : List CatalogLine → PlainId → PlainSumLine → Type 0
IsInForce after id v = (at : ℕ) × IsLast (IsUpTo id v.label.volume) after at × ((l : CatalogLine) → get_or after at l ≡ Volume v)

-- The line says that the dump is finished. No line of a volume of the dump follows, and no other
-- line that says this.
abbrev pub IsFinishedBy : List CatalogLine → PlainId → PlainFinished → Type 0
IsFinishedBy after id f = (at : ℕ) × IsLast (IsPastBegun id) after at × ((l : CatalogLine) → get_or after at l ≡ Finished f)

-- so many lines are lines with which the dump began
abbrev pub HasBegun : PlainId → List CatalogLine → ℕ → Type 0
HasBegun id [] count = count ≡ 0
HasBegun id (l ∷ ls) count = (Begins id l × ((fewer : ℕ) × (count ≡ fewer + 1) × HasBegun id ls fewer)) ⊎ ((Begins id l → ⊥) × HasBegun id ls count)
