use Rattle.std.proofs.Common.{refl}
use Rattle.dump_files.proofs.Lines.{counted_by, none_counted}
use Rattle.dump_files.proofs.counted_line.has_count_in.Goals as goal

pub returns-in-Some : goal.returns-in-Some
returns-in-Some c = counted_by c.args.lately.now.after.now c.args.lately.now.begun.now.id c.args.run.now c.args.count c.in-Some.line.now c.is_count_line.result
    c.in-Some.ensures.some.0 c.in-Some.ensures.some.1 c.is_count_line.ensures

pub returns-in-None : goal.returns-in-None
returns-in-None c = none_counted c.args.lately.now.after.now c.args.lately.now.begun.now.id c.args.run.now c.args.count (c.in-None.ensures.none refl)
