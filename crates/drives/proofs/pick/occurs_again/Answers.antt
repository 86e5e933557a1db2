use Rattle.drives.proofs.Arranging.{repeated_is, none_repeated}
use Rattle.drives.proofs.pick.occurs_again.Goals as goal

pub returns-in_default : goal.returns-in_default
returns-in_default c = none_repeated (λ n. n.now) c.args.names.now c.in_default.ensures.cases

pub returns : goal.returns
returns c = repeated_is (λ n. n.now) c.args.names.now _ _ c.any_is.result c.in-Some.ensures.cases.0 c.any_is.ensures
