use Rattle.dump_files.proofs.Lines.{known_by, none_known}
use Rattle.dump_files.proofs.counted_line.has_count.Goals as goal

pub returns-in-Some : goal.returns-in-Some
returns-in-Some c = known_by c.args.catalog.now c.args.run.now c.args.count c.id.result.now c.in-Some.lately c.has_count_in.result c.id.ensures c.in-Some.ensures
    c.has_count_in.ensures

pub returns-in-None : goal.returns-in-None
returns-in-None c = none_known c.args.catalog.now c.args.run.now c.args.count c.id.result.now c.id.ensures c.in-None.ensures
