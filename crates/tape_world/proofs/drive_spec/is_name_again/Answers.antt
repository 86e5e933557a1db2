use Rattle.tape_world.proofs.Layers.{repeated_is}
use Rattle.tape_world.proofs.drive_spec.is_name_again.Goals as goal

pub returns : goal.returns
returns c = repeated_is (λ d. d.name.now) c.args.drives.now _ _ c.any_named.result c.in-Some.ensures.cases.0 c.any_named.ensures
