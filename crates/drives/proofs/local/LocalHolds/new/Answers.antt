use Rattle.drives.proofs.Held.{none_held}
use Rattle.drives.proofs.local.LocalHolds.new.Goals as goal

pub invariant_of-result : goal.invariant_of-result
invariant_of-result c = none_held _ c.args.drives c.requires.some c.requires.few (c.in_ok-numbers.ensures.items_if_clones_equal (λ y same. same))
