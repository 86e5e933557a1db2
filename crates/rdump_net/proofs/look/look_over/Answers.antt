use Rattle.rdump_net.proofs.Words.{Err, refl, Closed, Opening, is_fault}
use Rattle.refusals.specs.declared.request.TapeRequest.TheVariants as asked
use Rattle.rdump_net.proofs.Looking.{done_part, failed_part, goes_both, goes_fails, part_after}
use Rattle.rdump_net.proofs.look.look_over.Goals as goal

pub returns-in_err-open : goal.returns-in_err-open
returns-in_err-open g c =
    rw (is_fault c.from_residual.ensures.1) (failed_part g.P.Peer.tells c.args.device.now _ _ Opening Closed asked.Open c.in_err-open.field-0.0 refl (λ n text. refl) c.in_err-open.ensures)

pub returns-in-Ok : goal.returns-in-Ok
returns-in-Ok g c =
    let device = c.args.device.now in
    part_after _ Closed c.close_found.result (goes_both (done_part asked.Open Opening refl c.in_ok-open.ensures) (c.in-Ok.ensures device)) (c.close_found.ensures device)

pub returns-in-Refused : goal.returns-in-Refused
returns-in-Refused g c =
    let device = c.args.device.now in
    let h = rw c.in-Refused.is at (c.in-Err.ensures device) in
    part_after _ Closed (Err c.close_refused.result) (goes_both (done_part asked.Open Opening refl c.in_ok-open.ensures) h) (c.close_refused.ensures device)

pub returns-in-NoReply : goal.returns-in-NoReply
returns-in-NoReply g c =
    let device = c.args.device.now in
    let h = rw c.in-NoReply.is at (c.in-Err.ensures device) in rw c.in-NoReply.is (goes_fails (done_part asked.Open Opening refl c.in_ok-open.ensures) h)
