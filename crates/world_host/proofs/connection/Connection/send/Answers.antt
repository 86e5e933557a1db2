use Rattle.std.proofs.Common.{rules}
use Rattle.world_host.proofs.connection.Connection.send.Goals as goal

pub returns-clause-sent : goal.returns-clause-sent
returns-clause-sent c = search rules
