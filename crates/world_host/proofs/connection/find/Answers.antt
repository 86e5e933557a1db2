use Rattle.std.specs.Option.{option_copied}
use Rattle.world_host.proofs.Linked.{found}
use Rattle.world_host.proofs.connection.find.Goals as goal

pub returns : goal.returns
returns c =
    found c.args.connections.now c.args.connection c.in_ok-place.place (option_copied c.at.result) c.in_ok-place.ensures.0 c.in_ok-place.ensures.1 c.at.ensures
