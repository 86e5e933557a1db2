-- The line of a counted volume. Public contracts cite it.
use Rattle.std.specs.Prelude.{◌≡◌, ◌==◌, ℕ, List, All, Some, if◌then◌else◌}
use Rattle.dump_run.specs.DumpId.{PlainId}
use Rattle.dump_run.specs.Run.{PlainRun, id_of_run}
use Rattle.dump_run.specs.Label.{label_of}
use Rattle.dump_run.specs.declared.count.VolumeCount.{VolumeCount}
use Rattle.catalog.specs.SumLine.{PlainSumLine}
use Rattle.catalog.specs.Run.{IsInForce, IsRunIn}
use Rattle.catalog.specs.declared.line.CatalogLine.{CatalogLine}
use Rattle.catalog.specs.declared.run.CatalogRun.{CatalogRun}

-- the size of a block of a volume that has this number of blocks: 0 if there are none
abbrev pub block_size : PlainRun → ℕ → ℕ
block_size run blocks = if blocks == 0 then 0 else run.block_bytes

-- The line has the label of the counted volume, the number of its blocks and their size. Its sum
-- can be any.
pub record IsCountLine (run : PlainRun) (count : VolumeCount) (line : PlainSumLine) : Type 0 where
  pub label : line.label ≡ label_of run count.volume count.first
  pub blocks : line.blocks ≡ count.count
  pub block_bytes : line.block_bytes ≡ block_size run count.count

-- Among the lines that follow the last one with which the dump `id` began, a line of the counted
-- volume is in force.
abbrev pub HasCountIn : List CatalogLine → PlainId → PlainRun → VolumeCount → Type 0
HasCountIn after id run count = (v : PlainSumLine) × IsInForce after id v × IsCountLine run count v

-- A line of the counted volume is in force: it follows the last line with which the run's dump
-- began, and no line after it is that of the same volume of the dump, or of an earlier one.
pub record HasCountLine (lines : List CatalogLine) (run : PlainRun) (count : VolumeCount) : Type 0 where
  pub lately : CatalogRun
  pub begun : IsRunIn lines (id_of_run run) (Some lately)
  pub counted : HasCountIn lately.after.now (id_of_run run) run count

-- each counted volume has a line that is in force
abbrev pub IsCovered : List CatalogLine → PlainRun → List VolumeCount → Type 0
IsCovered lines run counts = All (HasCountLine lines run) counts
