use Rattle.rdump_net.proofs.Words.{[], true, false, refl, ◌∙◌, starts, stays, alone}
use Rattle.rdump_net.proofs.Talking.{kept_source, one_call}
use Rattle.rdump_net.proofs.attempt.begin.Goals as goal

pub returns-in_err-start-clause-talks : goal.returns-in_err-start-clause-talks
returns-in_err-start-clause-talks g c =
    let h = c.in_err-start.ensures in
    one_call (kept_source g.B.Blocks.holds h.same_source) (alone g.P.Peer.tells c.args.peer.now) (λ old k. (old, stays c.args.client.now.room _ h.started, h.fed old k))

pub returns-then-connect-clause-talks : goal.returns-then-connect-clause-talks
returns-then-connect-clause-talks g c =
    let h = c.in_ok-start.ensures in
    one_call (kept_source g.B.Blocks.holds h.same_source) (rw c.if-connect.true at c.connect.ensures)
    (λ old k. (old, starts _ c.start.new.self.at true refl h.started (refl, refl), h.fed old k))

pub returns-clause-talks : goal.returns-clause-talks
returns-clause-talks g c =
    let h = c.in_ok-start.ensures in
    let k = c.ended.ensures in
    one_call (kept_source g.B.Blocks.holds (k.same_source ∙ h.same_source)) (rw c.if-connect.false at c.connect.ensures)
    (λ old fed. ([], starts _ c.start.new.self.at false refl h.started (c.ended.result, k.moved, refl), k.fed))
