use Rattle.std.proofs.Common.{refl}
use Rattle.dump_files.proofs.Lines.{finished_by, none_finished}
use Rattle.dump_files.proofs.catalog_update.has_finished.Goals as goal

pub returns-in-Some : goal.returns-in-Some
returns-in-Some c = finished_by c.args.lately.now.after.now c.args.lately.now.begun.now.id c.in-Some.held.now c.args.finished.now c.is_same.result
    c.in-Some.ensures.some c.is_same.ensures

pub returns-in-None : goal.returns-in-None
returns-in-None c = none_finished c.args.lately.now.after.now c.args.lately.now.begun.now.id c.args.finished.now (c.in-None.ensures.none refl)
