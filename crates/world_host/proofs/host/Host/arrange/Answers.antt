use Rattle.std.proofs.Common.{map}
use Rattle.world_host.proofs.Restacked.{restacked_hosting, restacked_seen}
use Rattle.world_host.proofs.host.Host.arrange.Goals as goal

pub arrange-requires-clause-may : goal.arrange-requires-clause-may
arrange-requires-clause-may c =
    rw (c.arranged_at_rest.ensures c.self.inside.drives.stacks c.args.drive (map (λ n. n.now) c.args.names.now))
    (rw (← c.self.view_is) at c.requires.may)

pub invariant_of-self : goal.invariant_of-self
invariant_of-self c = (
  restacked_hosting c.open_is_held.ensures.free c.still_at.ensures.elsewhere c.self.invariant.0 c.args.drive
      (rw (← c.self.view_is) at c.requires.free)
      c.arrange.new.self c.arrange.ensures.same_drives c.arrange.ensures.elsewhere (map (λ n. n.now) c.args.names.now) c.arrange.result
      c.arrange.ensures.told_order c.arrange.ensures.told c.arrange.ensures.quiet,
  c.self.invariant.1,
)

pub returns-clause-arranged : goal.returns-clause-arranged
returns-clause-arranged c =
    rw (← c.self.view_is) (restacked_seen c.self.inside.drives c.arrange.new.self c.self.inside.sides.items _ c.args.drive
    (map (λ n. n.now) c.args.names.now) c.arrange.result c.arrange.ensures.told_order)
