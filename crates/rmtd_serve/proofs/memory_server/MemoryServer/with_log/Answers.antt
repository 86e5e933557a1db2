use Rattle.std.proofs.Common.{rules}
use Rattle.rmtd_serve.proofs.memory_server.MemoryServer.with_log.Goals as goal

pub returns : goal.returns
returns g c = search rules
