use Rattle.std.proofs.Common.{◌≡◌, ℕ, List, length}
use Rattle.rmt_server.proofs.Names.{Unread, kinds, state, IsAt, Advances, IsAnswered}
use Rattle.rmt_server.proofs.stream.answer_all.Given as goal

abbrev pub invariant-loop-fault : goal.invariant-loop-fault
invariant-loop-fault g l =
    IsAt (kinds g.H.Holds g.S.Stacks g.S.Reel.Reel) (state l.drives l.session)
    × (l.output.failures ≡ l.initial.output.failures)
    × ((bytes : List ℕ) → Unread l.initial.wire bytes
    → Advances (kinds g.H.Holds g.S.Stacks g.S.Reel.Reel) (state l.initial.drives l.initial.session) (state l.drives l.session)
    (λ done rest. IsAnswered (g.W.Write.contents l.initial.output.inner) (g.W.Write.contents l.output.inner) bytes done rest × Unread l.wire rest))

abbrev pub decreases-loop-fault : goal.decreases-loop-fault
decreases-loop-fault g l = length l.wire.kept
