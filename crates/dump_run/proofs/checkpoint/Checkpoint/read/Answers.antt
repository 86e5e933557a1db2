use Rattle.dump_run.proofs.Words.{take_all, ◌≤◌, length, ap, arith}
use Rattle.std.proofs.lemmas.Result.{err_from_is_err_and}
use Rattle.dump_run.proofs.Ordering.{whole_text, refused_counts, out_of_order}
use Rattle.dump_run.proofs.checkpoint.Checkpoint.read.Goals as goal

pub returns-in_err-counts-clause-refused : goal.returns-in_err-counts-clause-refused
returns-in_err-counts-clause-refused c =
    let run = c.in_ok-run in
    let p = err_from_is_err_and c.from_residual-in_err-counts.result c.from_residual-in_err-counts.ensures.1 in
    rw (p.1, p.2) (refused_counts c.args.bytes.now run.rest.now run.run' c.in_err-counts.field-0.0 run.ensures.0 run.ensures.1 c.in_err-counts.ensures)

pub returns-then-count-len-clause-refused : goal.returns-then-count-len-clause-refused
returns-then-count-len-clause-refused c =
    let run = c.in_ok-run in
    let counts = c.in_ok-counts.counts.items in
    out_of_order c.args.bytes.now run.run' counts c.ordered-count.result run.ensures.0 c.in_ok-counts.ensures.0
    (whole_text c.args.bytes.now run.rest.now run.run' counts run.ensures.1 c.in_ok-counts.ensures.1) (rw c.deref.ensures.value at c.ordered-count.ensures)
    (omega (arith, c.if-count-len.true, c.len.ensures, c.deref.ensures.len, ap length c.deref.ensures.value))

pub returns-clause-spelled : goal.returns-clause-spelled
returns-clause-spelled c =
    let run = c.in_ok-run in
    let counts = c.in_ok-counts.counts.items in
    let all : length counts ≤ c.ordered-count.result = omega (arith, c.if-count-len.false, c.len.ensures, c.deref.ensures.len, ap length c.deref.ensures.value) in
    let found = rw c.deref.ensures.value at c.ordered-count.ensures in record {
      text = whole_text c.args.bytes.now run.rest.now run.run' counts run.ensures.1 c.in_ok-counts.ensures.1;
      limits = run.ensures.0;
      in_order = rw (take_all c.ordered-count.result counts all) at found.1;
    }
