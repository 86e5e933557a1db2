use Rattle.rdump_net.proofs.Words.{[], ◌∷◌, inr, refl, Ended, alone}
use Rattle.rdump_net.proofs.Looking.{whole_look}
use Rattle.rdump_net.proofs.look.look_at_reel.Goals as goal

pub returns-in_default : goal.returns-in_default
returns-in_default g c = record { replies = []; passed = []; logs = alone g.P.Peer.tells c.args.peer.now; ends = rw c.unopened.ensures.cause (inr (refl, refl)) }

pub returns-then-not-connect : goal.returns-then-not-connect
returns-then-not-connect g c =
    record { replies = []; passed = Ended ∷ []; logs = rw c.if-not-connect.true at c.connect.ensures; ends = rw c.unopened-then-not-connect.ensures.cause (inr (refl, refl)) }

pub returns : goal.returns
returns g c = whole_look _ _ c.look_over-found.result (rw c.if-not-connect.false at c.connect.ensures) c.look_over-found.ensures c.hang_up.ensures
