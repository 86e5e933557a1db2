use Rattle.std.proofs.Common.{rules}
use Rattle.std.proofs.lemmas.List.Sorted.{IsNonDecreasingBy-from_sort_by_key}
use Rattle.catalog.proofs.Places.{packed, sorted_by}
use Rattle.catalog.proofs.place.sorted_places.Goals as goal

pub returns : goal.returns
returns c =
    sorted_by c.args.lines.now _ c.sort_unstable_by_key.new.self.items c.in_ok-places.ensures c.sort_unstable_by_key.ensures.permutation
    (IsNonDecreasingBy-from_sort_by_key packed _ c.sort_unstable_by_key.ensures.sorted (λ a r q k. search rules))
