use Rattle.std.proofs.Common.{◌-◌, rules, arith}
use Rattle.catalog.specs.Places.{place}
use Rattle.catalog.specs.Run.{IsPastBegun}
use Rattle.catalog.proofs.Places.{past_begun_id, last_by, none_more}
use Rattle.catalog.proofs.last_line.last_past_begun.Goals as goal

pub returns-then-is_past_begun : goal.returns-then-is_past_begun
returns-then-is_past_begun c =
    last_by (IsPastBegun c.args.id.now) c.args.lines.now c.args.base c.args.places.now c.args.id.now (c.loop-left.left - 1) c.in-Some.at (place 0 0)
    (past_begun_id c.args.id.now) c.requires (omega (arith, c.loop-left.invariant.0, c.loop-left-test.true)) c.in-Some.ensures.1 c.in-Some.ensures.0
    c.index-lines-at.result c.index-lines-at.is (search rules) (λ j k d l from. c.loop-left.invariant.1 j k d l (omega (arith, from)))

pub loop-left-preserved : goal.loop-left-preserved
loop-left-preserved c = (
  omega (arith, c.loop-left.invariant.0),
  none_more (IsPastBegun c.args.id.now) c.args.lines.now c.args.base c.args.places.now (c.loop-left.left - 1) (place 0 0)
      (λ j k d l from. c.loop-left.invariant.1 j k d l (omega (arith, from))) (λ k l there short is_so. c.in_default.ensures k short there),
)
