use Rattle.std.proofs.Common.{ltb, ltb-true, ltb-false, arith, rules}
use Rattle.std.proofs.lemmas.List.Sorted.{IsPartitionPoint-from_clause, IsPartitionedBy-ltb}
use Rattle.catalog.proofs.place.first_from.Goals as goal

pub returns : goal.returns
returns c =
    let parted = IsPartitionedBy-ltb (λ p. p.key) _ c.args.key c.requires in
    let point = IsPartitionPoint-from_clause (λ p. ltb p.key c.args.key) _ _ c.partition_point.ensures.partitioned parted (λ a r q k. search rules) in (
      c.partition_point.ensures.bound,
      λ i d below. ltb-true _ _ (point.0 i d (omega arith) below),
      λ i d from within. ltb-false _ _ (point.1 i d from within),
    )
