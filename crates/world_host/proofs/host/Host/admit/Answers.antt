use Rattle.std.proofs.Common.{false, sym, ap, ◌∙◌}
use Rattle.world_host.proofs.Names.{hosted, is_whole_side}
use Rattle.world_host.proofs.Hosted.{joined_hosting, joined_server}
use Rattle.world_host.proofs.host.Host.admit.Goals as goal

pub invariant_of-self : goal.invariant_of-self
invariant_of-self c = (
  rw (c.replace.ensures.after, c.push_reserved.ensures.items)
      (joined_hosting (rw (sym c.replace.ensures.value ∙ c.in-Whole.is) at c.self.invariant.0)),
  λ whole. let bad = sym (ap is_whole_side c.replace.ensures.after) ∙ whole in absurd cc,
)

pub returns-in-Whole : goal.returns-in-Whole
returns-in-Whole c =
    rw (← c.self.view_is, c.replace.ensures.after, c.push_reserved.ensures.items)
    (ap (λ x. hosted x false) (joined_server _ _ c.in-Whole.side (rw (sym c.replace.ensures.value ∙ c.in-Whole.is) at c.self.invariant.0)))
