use Rattle.rdump_net.proofs.Words.{[], true, false, Ok, Err, refl, vec_capacity, asks, has_none, alone}
use Rattle.rdump_net.proofs.Observed.{observes_none}
use Rattle.rdump_net.proofs.Talking.{one_call, kept_source}
use Rattle.rdump_net.proofs.attempt.ask.Goals as goal

pub returns-then-send : goal.returns-then-send
returns-then-send g c =
    let h = c.in-Ok-true.ensures in
    let asked = rw (c.clear.ensures.items, c.in-Ok-true.field-0-test) at h.asked in
    let whole = rw (c.as_slice.ensures.value, c.if-send.true) at c.send.ensures.1 in
    record {
      talks = rw (c.sent.ensures) (one_call (λ payload. (h.same_blocks payload).0) c.send.ensures.2
          (λ old k. (old, asks (vec_capacity c.clear.new.self) c.next_request.new.out.items c.next_request.new.self.at true asked whole (refl, refl), h.fed old k)));
      observed = record { logged = c.sent-then-send.ensures.logs; quiet = c.sent-then-send.ensures.quiet };
    }

pub returns-else-send : goal.returns-else-send
returns-else-send g c =
    let h = c.in-Ok-true.ensures in
    let k = c.ended.ensures in
    let asked = rw (c.clear.ensures.items, c.in-Ok-true.field-0-test) at h.asked in
    let part = rw (c.as_slice.ensures.value, c.if-send.false) at c.send.ensures.1 in
    record {
      talks = one_call (λ payload told. kept_source g.B.Blocks.holds k.same_source payload ((h.same_blocks payload).0 told)) c.send.ensures.2
          (λ old fed. ([], asks (vec_capacity c.clear.new.self) c.next_request.new.out.items c.next_request.new.self.at false asked part (c.ended.result, k.moved, refl), k.fed));
      observed = observes_none;
    }

pub returns-in-Ok-false : goal.returns-in-Ok-false
returns-in-Ok-false g c =
    let h = c.in-Ok-false.ensures in
    let asked = rw (c.clear.ensures.items, c.in-Ok-false.field-0-test) at h.asked in
    record {
      talks = one_call (λ payload. (h.same_blocks payload).0) (alone g.P.Peer.tells c.args.peer.now)
          (λ old k. (old, has_none (vec_capacity c.clear.new.self) (Ok false) c.next_request.new.out.items asked (λ is. cc), h.fed old k));
      observed = observes_none;
    }

pub returns-in-Err : goal.returns-in-Err
returns-in-Err g c =
    let h = c.in-Err.ensures in
    let asked = rw c.clear.ensures.items at h.asked in
    record {
      talks = one_call (λ payload. (h.same_blocks payload).0) (alone g.P.Peer.tells c.args.peer.now)
          (λ old k. (old, has_none (vec_capacity c.clear.new.self) (Err c.in-Err.fault) c.next_request.new.out.items asked (λ is. cc), h.fed old k));
      observed = observes_none;
    }
