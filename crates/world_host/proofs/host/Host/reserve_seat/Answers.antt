use Rattle.std.proofs.Common.{sym, ap, ◌∙◌}
use Rattle.world_host.proofs.Names.{MemoryDrives}
use Rattle.world_host.proofs.Hosted.{nothing_is, seated_hosting}
use Rattle.world_host.proofs.host.Host.reserve_seat.Goals as goal

pub invariant_of-self-in-Some-2 : goal.invariant_of-self-in-Some-2
invariant_of-self-in-Some-2 c =
    let next = c.in-Some.ensures.next in
    let drives : MemoryDrives = c.self.inside.drives in
    let empty = nothing_is c.self.inside.next (sym c.is_nothing.ensures ∙ c.if-is_nothing.true) in (
      seated_hosting c.more_seats.ensures drives (record drives { holds = c.seat.new.self }) c.self.inside.sides.items
          (rw empty at c.self.invariant.0) c.in-Some.seat
          (ap (λ h. record drives { holds = h }) next.1) next.2 c.in-Some.ensures.own c.in-Some.ensures.idle,
      λ bad. absurd cc,
    )
