-- A line of a catalog: a dump begins, a volume was counted, or a dump is finished. Public contracts
-- cite it.
use Rattle.std.specs.Prelude.{ℕ, List}
use Rattle.dump_run.specs.DumpId.{PlainId}
use Rattle.dump_run.specs.Label.{id_of}
use Rattle.catalog.specs.DumpLines.{IsBegun, IsFinished, begun_text, finished_text}
use Rattle.catalog.specs.SumLine.{IsSumLine, sum_line}
use Rattle.catalog.specs.declared.line.CatalogLine.{CatalogLine}
use Rattle.catalog.specs.declared.line.CatalogLine.TheVariants.{Begun, Volume, Finished}

-- the line is within its limits
abbrev pub IsLine : CatalogLine → Type 0
IsLine (Begun b) = IsBegun b
IsLine (Volume v) = IsSumLine v
IsLine (Finished f) = IsFinished f

-- the text of a line
abbrev pub line_text : CatalogLine → List ℕ
line_text (Begun b) = begun_text b
line_text (Volume v) = sum_line v
line_text (Finished f) = finished_text f

-- the dump of a line
abbrev pub line_id : CatalogLine → PlainId
line_id (Begun b) = b.id
line_id (Volume v) = id_of v.label
line_id (Finished f) = f.id
