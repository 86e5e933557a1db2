use Rattle.std.proofs.Common.{◌≡◌, None, Ok}
use Rattle.rmt_server.proofs.Names.{kinds, state, IsAt}
use Rattle.rmt_server.proofs.Answering.{Progress}
use Rattle.rmt_server.proofs.stream.converse.Given as goal

abbrev pub invariant-loop-wire : goal.invariant-loop-wire
invariant-loop-wire g l =
    IsAt (kinds g.H.Holds g.S.Stacks g.S.Reel.Reel) (state l.drives l.session)
    × (l.input.failures ≡ l.fn.input.failures)
    × (l.output.failures ≡ l.fn.output.failures)
    × Progress (kinds g.H.Holds g.S.Stacks g.S.Reel.Reel) (g.R.Read.remaining l.fn.input.inner) (g.R.Read.remaining l.input.inner) g.W.Write.contents
    l.fn.output l.output (state l.fn.drives l.fn.session) (state l.drives l.session) l.wire (Ok None)

abbrev pub decreases-loop-wire : goal.decreases-loop-wire
decreases-loop-wire g l = l.input.left
