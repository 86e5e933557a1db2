use Rattle.rdump_net.proofs.Words.{Err, Ok, refl}
use Rattle.refusals.specs.declared.request.TapeRequest.TheVariants as asked
use Rattle.rdump_net.proofs.Reading.{asked_next}
use Rattle.rdump_net.proofs.volume.close.Goals as goal

pub returns-in-Ok : goal.returns-in-Ok
returns-in-Ok g c = asked_next g.P.Peer.tells _ _ asked.Close (Ok tt) refl c.in-Ok.ensures

pub returns-in-Err : goal.returns-in-Err
returns-in-Err g c = asked_next g.P.Peer.tells _ _ asked.Close (Err c.in-Err.fault) refl c.in-Err.ensures
