use Rattle.dump_run.proofs.Words.{get_or, arith, both_ways}
use Rattle.dump_run.proofs.Ordering.{zero_count, up_to_more, not_next, listed_there}
use Rattle.dump_run.proofs.checkpoint.order.ordered.Goals as goal

pub returns-then-not-is_next : goal.returns-then-not-is_next
returns-then-not-is_next c =
    let counts = c.args.counts.now in
    let at = c.loop-at.at in (
      omega (arith, c.loop-at-test.true),
      c.loop-at.invariant.volumes,
      λ within. not_next c.args.run.now counts at c.loop-at.first (get_or counts at zero_count) within (listed_there counts at within) c.loop-at.invariant
          (λ next. both_ways c.is_next.result c.if-not-is_next.true (c.is_next.ensures.1 (rw c.blocks-blocks.ensures.told next))),
    )

pub loop-at-preserved : goal.loop-at-preserved
loop-at-preserved c =
    let counts = c.args.counts.now in
    let there = c.loop-at-test.true in
    up_to_more c.args.run.now counts c.loop-at.at c.loop-at.first _ there (listed_there counts c.loop-at.at there) c.loop-at.invariant
    (rw c.blocks-blocks.ensures.told at (c.is_next.ensures.0 c.if-not-is_next.false))
