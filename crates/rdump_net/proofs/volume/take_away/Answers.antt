use Rattle.rdump_net.proofs.Words.{Err, Ok, Tape, refl}
use Rattle.refusals.specs.declared.request.TapeRequest.TheVariants as asked
use Rattle.rdump_net.proofs.Marks.{reel_goes}
use Rattle.rdump_net.proofs.Reading.{asked_next}
use Rattle.rdump_net.proofs.volume.take_away.Goals as goal

pub returns-in-Ok : goal.returns-in-Ok
returns-in-Ok g c = λ next replies at. reel_goes next g.P.Peer.tells _ _ c.args.goes replies (Ok tt) c.in-Offline.is at (asked_next g.P.Peer.tells _ _ asked.Offline (Ok tt) refl c.in-Ok.ensures)

pub returns-in-Err : goal.returns-in-Err
returns-in-Err g c = λ next replies at.
    reel_goes next g.P.Peer.tells _ _ c.args.goes replies (Err (Tape c.in-Err.fault)) c.in-Offline.is at (asked_next g.P.Peer.tells _ _ asked.Offline (Err c.in-Err.fault) refl c.in-Err.ensures)
