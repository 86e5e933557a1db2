use Rattle.std.proofs.Common.{sym, ap, ◌∙◌, arith}
use Rattle.world_host.proofs.Names.{hosted, is_whole_side}
use Rattle.world_host.proofs.Sides.{with_none}
use Rattle.world_host.proofs.Ended.{ended_none, ended_hosting, ended_server}
use Rattle.world_host.proofs.host.Host.end.Goals as goal

pub invariant_of-self : goal.invariant_of-self
invariant_of-self c = (
  rw c.take_side.ensures.left
      (ended_hosting c.one_holder.ensures.others c.one_session_view.ensures.told c.untroubled_end.ensures c.self.invariant.0 c.args.connection
      c.in-Some.side
      (sym c.take_side.ensures.taken ∙ c.in-Some.is) c.end.new.drives c.end.new.self c.end.ensures),
  λ whole. omega (arith, c.take_side.ensures.len, c.take_side.ensures.room, c.self.invariant.1 whole),
)

pub invariant_of-self-in_default : goal.invariant_of-self-in_default
invariant_of-self-in_default c = (
  rw (c.take_side.ensures.left, with_none _ _ (sym c.take_side.ensures.taken ∙ c.in_default.is)) c.self.invariant.0,
  λ whole. omega (arith, c.take_side.ensures.len, c.take_side.ensures.room, c.self.invariant.1 whole),
)

pub returns-in-Some : goal.returns-in-Some
returns-in-Some c =
    rw (← c.self.view_is, c.take_side.ensures.left) (ap (λ x. hosted x (is_whole_side c.self.inside.next))
    (ended_server c.one_holder.ensures.others c.one_session_view.ensures.told c.untroubled_end.ensures c.self.invariant.0 c.args.connection
    c.in-Some.side
    (sym c.take_side.ensures.taken ∙ c.in-Some.is) c.end.new.drives c.end.new.self c.end.ensures))

pub returns-in_default : goal.returns-in_default
returns-in_default c =
    let none = sym c.take_side.ensures.taken ∙ c.in_default.is in
    rw (← c.self.view_is, c.take_side.ensures.left, with_none _ _ none)
    (ap (λ x. hosted x (is_whole_side c.self.inside.next)) (ended_none c.self.inside.drives c.self.inside.sides.items c.args.connection none))
