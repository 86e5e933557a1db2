use Rattle.rdump_net.proofs.Words.{false, refl, ◌∙◌}
use Rattle.rdump_net.proofs.Marks.{look_so, closed_done, concluded_unasked}
use Rattle.rdump_net.proofs.volume.conclude.Goals as goal

pub returns-in-Stay : goal.returns-in-Stay
returns-in-Stay g c = (
  false,
  λ next replies at.
      concluded_unasked c.args.sink.now (closed_done c.close.result (λ ends. at ends ∙ rw c.in-Stay.is refl) (λ later on. rw c.in-Stay.is refl) c.close.ensures),
)

pub returns-in-Check : goal.returns-in-Check
returns-in-Check g c =
    let m = c.search.ensures in (m.0, λ next replies at. let a = look_so next g.P.Peer.tells c.args.goes m.0 replies c.args.records c.in-Check.is at in m.1 next replies a.0 a.1)
