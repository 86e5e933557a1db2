use Rattle.std.proofs.Common.{rules, ap, refl, sym, subst}
use Rattle.rmtd_serve.specs.Serving.{AllFree}
use Rattle.rmtd_serve.proofs.Afresh.{not_served, stacks_served}
use Rattle.rmtd_serve.proofs.Resting.{seated_free, served_free}
use Rattle.rmtd_serve.proofs.tape_server.TapeServer.serve.Goals as goal

pub returns-in_err-seat : goal.returns-in_err-seat
returns-in_err-seat g c = not_served (search rules) (search rules)

pub invariant_of-self-2 : goal.invariant_of-self-2
invariant_of-self-2 g c =
    let afresh = c.serve_afresh-ending.ensures in (
      subst AllFree (sym (ap (λ d. d.holds) afresh.drives_back))
          (served_free g.S.Stacks g.S.Reel.Reel _ (seated_free c.self.inside.drives.holds _ c.self.invariant.0 c.in_ok-seat.ensures.ok_part c.seat.ensures.next) afresh.serves),
      search rules,
    )

pub returns : goal.returns
returns g c =
    let afresh = c.serve_afresh-ending.ensures in
    stacks_served g.S.Stacks g.S.Reel.Reel g.R.Read.remaining g.W.Write.contents _ _ _ c.self.view_is
    (sym (ap (λ d. d.stacks) afresh.drives_back)) refl afresh.nothing
    (seated_free c.self.inside.drives.holds _ c.self.invariant.0 c.in_ok-seat.ensures.ok_part c.seat.ensures.next) afresh.serves
