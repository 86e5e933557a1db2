use Rattle.rdump_net.proofs.Words.{refl, Closing, RewindingAgain, Spacing, is_fault}
use Rattle.refusals.specs.declared.request.TapeRequest.TheVariants as asked
use Rattle.rdump_net.proofs.Looking.{done_part, failed_part, goes_both, no_mark_part, part_after}
use Rattle.rdump_net.proofs.look.find_mark.Goals as goal

pub returns-in_err-rewind : goal.returns-in_err-rewind
returns-in_err-rewind g c = λ device.
    rw (is_fault c.from_residual.ensures.1) (failed_part g.P.Peer.tells device _ _ RewindingAgain Closing asked.Rewind c.in_err-rewind.field-0.0 refl (λ n text. refl) c.in_err-rewind.ensures)

pub returns-in-Ok : goal.returns-in-Ok
returns-in-Ok g c = λ device. goes_both (done_part asked.Rewind RewindingAgain refl c.in_ok-rewind.ensures) (done_part asked.Space Spacing refl c.in-Ok.ensures)

pub returns-in-Err : goal.returns-in-Err
returns-in-Err g c = λ device.
    part_after _ Closing c.no_mark.result (done_part asked.Rewind RewindingAgain refl c.in_ok-rewind.ensures) (no_mark_part g.P.Peer.tells device _ _ c.in-Err.fault c.no_mark.result c.no_mark.ensures c.in-Err.ensures)
