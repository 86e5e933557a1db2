-- Whether a dump may write on a reel, decided from the reel's beginning. Public contracts cite it.
use Rattle.std.specs.Prelude.{◌≡◌, ℕ, List, Option, Some, None}
use Rattle.dump_run.specs.Label.{PlainLabel, ReadsLabel}
use Rattle.rdump_net.specs.Look.{PlainFront}
use Rattle.rdump_net.specs.Look.PlainFront.{Record, Mark, Empty}
use Rattle.rdump_net.specs.declared.protection.Protection.{Protection}
use Rattle.rdump_net.specs.declared.protection.Protection.TheVariants as why

-- what identifies a dump on a label
pub record DumpKey : Type 0 where
  pub name : List ℕ
  pub level : ℕ
  pub date : ℕ

-- makes a `DumpKey`
abbrev pub dump_key : List ℕ → ℕ → ℕ → DumpKey
dump_key name level date = record { name = name; level = level; date = date }

-- the label is one of this dump
abbrev pub IsLabelOf : DumpKey → PlainLabel → Type 0
IsLabelOf key l = (l.name ≡ key.name) × (l.level ≡ key.level) × (l.date ≡ key.date)

-- a dump may write over its own label, and over no other
abbrev pub IsLabelDecided : DumpKey → PlainLabel → Option Protection → Type 0
IsLabelDecided key l None = IsLabelOf key l
IsLabelDecided key l (Some why.OtherDump) = IsLabelOf key l → ⊥
IsLabelDecided key l (Some why.NoLabel) = ⊥
IsLabelDecided key l (Some why.Mark) = ⊥

-- whether the dump `key` may write over a reel that begins with this record: None if it may, and
-- otherwise why not
abbrev pub IsRecordDecided : DumpKey → List ℕ → Option Protection → Type 0
IsRecordDecided key bytes None = (l : PlainLabel) × ReadsLabel bytes (Some l) × IsLabelDecided key l None
IsRecordDecided key bytes (Some why.OtherDump) = (l : PlainLabel) × ReadsLabel bytes (Some l) × IsLabelDecided key l (Some why.OtherDump)
IsRecordDecided key bytes (Some why.NoLabel) = ReadsLabel bytes None
IsRecordDecided key bytes (Some why.Mark) = ⊥

-- The dump `key` may write on an empty reel, and on one with its own label: then `result` is None.
-- For a reel that begins with anything else, `result` says why not.
abbrev pub IsDecided : DumpKey → PlainFront → Option Protection → Type 0
IsDecided key Empty result = result ≡ None
IsDecided key Mark result = result ≡ Some why.Mark
IsDecided key (Record bytes) result = IsRecordDecided key bytes result
