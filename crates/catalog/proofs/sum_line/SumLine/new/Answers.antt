use Rattle.std.proofs.Common.{refl, rules}
use Rattle.catalog.proofs.sum_line.SumLine.new.Goals as goal

pub invariant_of-result : goal.invariant_of-result
invariant_of-result c = record {
  sum = search rules;
  label = search rules;
  blocks = c.if-blocks-gt-BLOCKS_LIMIT.false;
  size = c.is_size_of.ensures.0 c.if-not-is_size_of.false;
}

pub returns-clause-limits : goal.returns-clause-limits
returns-clause-limits c = (λ is. invariant_of-result c, λ good. refl)
