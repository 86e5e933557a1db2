use Rattle.remote_tape.proofs.Words.{refl}
use Rattle.remote_tape.proofs.tape.RemoteTape.read.Goals as goal

pub returns-in-Ok-Error : goal.returns-in-Ok-Error
returns-in-Ok-Error g c = (refl, (c.in-Ok-Error.field-0-1.now, rw c.in-Ok-Error.field-0-is at c.in-Ok-Error.ensures))
