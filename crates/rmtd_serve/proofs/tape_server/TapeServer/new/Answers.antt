use Rattle.std.proofs.Common.{rules}
use Rattle.rmtd_serve.proofs.tape_server.TapeServer.new.Goals as goal

pub returns : goal.returns
returns g c = search rules
