use Rattle.catalog.specs.Line.{line_id}
use Rattle.dump_files.proofs.Lines.{not_begun}
use Rattle.dump_files.proofs.catalog_update.decide_line.Goals as goal

pub returns-then-begun : goal.returns-then-begun
returns-then-begun c = not_begun c.args.catalog.now c.id.result.now (line_id c.args.line.now) c.begun.result c.args.begun c.id.ensures c.begun.ensures c.if-begun.true
