use Rattle.rdump_net.proofs.Words.{[], ◌∷◌, Err, Ok, O_RDONLY, Tape, refl, next_of, is_fault}
use Rattle.refusals.specs.declared.request.TapeRequest.TheVariants as asked
use Rattle.rdump_net.proofs.Reading.{begun_both, asked_next}
use Rattle.rdump_net.proofs.volume.begin.Goals as goal

pub returns-in_err-open : goal.returns-in_err-open
returns-in_err-open g c = λ after completed.
    rw (is_fault c.from_residual.ensures.1) (asked_next g.P.Peer.tells _ _ asked.Open (Err c.in_err-open.field-0.0) (c.args.device.now, O_RDONLY, refl) c.in_err-open.ensures (next_of c.args.device.now after completed) [] refl (λ number text. refl))

pub returns-in_err-rewind : goal.returns-in_err-rewind
returns-in_err-rewind g c = λ after completed.
    let a = asked_next g.P.Peer.tells _ _ asked.Open (Ok tt) (c.args.device.now, O_RDONLY, refl) c.in_ok-open.ensures (next_of c.args.device.now after completed) [] refl (λ number text. refl) in
    rw (is_fault c.from_residual-in_err-rewind.ensures.1) (begun_both g.P.Peer.tells c.args.device.now after completed _ _ _ a.0 (Err (Tape c.in_err-rewind.field-0.0)) a.2 a.3
    (asked_next g.P.Peer.tells _ _ asked.Rewind (Err c.in_err-rewind.field-0.0) refl c.in_err-rewind.ensures (next_of c.args.device.now after completed) (a.0 ∷ []) (rw a.1 refl) (λ number text. refl)))

pub returns : goal.returns
returns g c = λ after completed.
    let a = asked_next g.P.Peer.tells _ _ asked.Open (Ok tt) (c.args.device.now, O_RDONLY, refl) c.in_ok-open.ensures (next_of c.args.device.now after completed) [] refl (λ number text. refl) in
    begun_both g.P.Peer.tells c.args.device.now after completed _ _ _ a.0 (Ok tt) a.2 a.3
    (asked_next g.P.Peer.tells _ _ asked.Rewind (Ok tt) refl c.in_ok-rewind.ensures (next_of c.args.device.now after completed) (a.0 ∷ []) (rw a.1 refl) (λ number text. refl))
