use Rattle.std.proofs.Common.{Some, subst}
use Rattle.catalog.specs.Line.{line_id}
use Rattle.catalog.specs.Run.{IsRunIn}
use Rattle.dump_files.specs.Entering.{StandsIn}
use Rattle.dump_files.proofs.Lines.{by_run}
use Rattle.dump_files.proofs.catalog_update.stands.Goals as goal

pub returns-in-Some : goal.returns-in-Some
returns-in-Some c = by_run (λ after id. StandsIn after id c.args.line.now) c.args.catalog.now (line_id c.args.line.now) c.in-Some.lately c.stands_in.result
    (subst (λ id. IsRunIn c.args.catalog.now id (Some c.in-Some.lately)) c.id.ensures c.in-Some.ensures) c.stands_in.ensures
