use Rattle.std.proofs.Common.{◌≡◌, ◌≤◌, ◌+◌, ◌-◌, length, map, drop, vec_len, vec_capacity}
use Rattle.drives.proofs.pick.pick.Given as goal
use Rattle.drives.proofs.Arranging.{IsPicking}

abbrev pub invariant-loop-name : goal.invariant-loop-name
invariant-loop-name l =
    IsPicking (map (λ n. n.now) (drop l.name-index l.names)) l.reels.items l.onto.items (map (λ n. n.now) l.names) l.initial.reels.items l.initial.onto.items
    × (vec_len l.onto + (length l.names - l.name-index) ≤ vec_capacity l.onto) × (vec_capacity l.reels ≡ vec_capacity l.initial.reels)
