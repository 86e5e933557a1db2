use Rattle.tape_world.proofs.Layers.{repeated_is}
use Rattle.tape_world.proofs.drive_spec.occurs_again.Goals as goal

pub returns : goal.returns
returns c = repeated_is (λ n. n.now) c.args.names.now _ _ c.any_is.result c.in-Some.ensures.cases.0 c.any_is.ensures
