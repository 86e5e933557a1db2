use Rattle.drives.proofs.Arranging.{differ_no, differ_yet}
use Rattle.drives.proofs.pick.all_differ.Goals as goal

pub returns-then-occurs_again : goal.returns-then-occurs_again
returns-then-occurs_again c = differ_no (λ n. n.now) c.args.names.now c.loop-place.place c.occurs_again.result c.occurs_again.ensures c.if-occurs_again.true c.loop-place.invariant

pub loop-place-preserved : goal.loop-place-preserved
loop-place-preserved c = differ_yet (λ n. n.now) c.args.names.now c.loop-place.place c.occurs_again.result c.occurs_again.ensures c.if-occurs_again.false c.loop-place.invariant
