use Rattle.std.proofs.Common.{◌≡◌, ◌++◌, length, All}
use Rattle.catalog.specs.Line.{IsLine}
use Rattle.catalog.specs.Catalog.{catalog_text}
use Rattle.catalog.proofs.catalog.Catalog.read.Given as goal

abbrev pub invariant-loop-rest : goal.invariant-loop-rest
invariant-loop-rest l = All IsLine l.lines.items × (l.bytes ≡ catalog_text l.lines.items ++ l.rest)

abbrev pub decreases-loop-rest : goal.decreases-loop-rest
decreases-loop-rest l = length l.rest
