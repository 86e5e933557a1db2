use Rattle.rdump_net.proofs.Words.{Front, Closed, Closing, plain_front, refl, is_fault}
use Rattle.refusals.specs.declared.request.TapeRequest.TheVariants as asked
use Rattle.rdump_net.proofs.Looking.{done_part, failed_part}
use Rattle.rdump_net.proofs.look.close_found.Goals as goal

pub returns-in_err-close : goal.returns-in_err-close
returns-in_err-close g c = λ device.
    rw (is_fault c.from_residual.ensures.1) (failed_part g.P.Peer.tells device _ _ (Closing (Front (plain_front c.args.front))) Closed asked.Close c.in_err-close.field-0.0 refl (λ n text. refl) c.in_err-close.ensures)

pub returns : goal.returns
returns g c = λ device. done_part asked.Close (Closing (Front (plain_front c.args.front))) refl c.in_ok-close.ensures
