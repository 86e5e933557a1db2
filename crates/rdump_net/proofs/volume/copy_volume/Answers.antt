use Rattle.rdump_net.proofs.Words.{[], ◌∷◌, false, refl, inr, append-nil, begins, unasked, nothing, Connected, Ended, alone, both}
use Rattle.rdump_net.proofs.Offline.{taken_away_only_if_kept}
use Rattle.rdump_net.proofs.volume.copy_volume.Goals as goal

pub returns-in_default : goal.returns-in_default
returns-in_default g c = record {
  read = let logs = alone g.P.Peer.tells c.args.peer.now in
      record { completed = false; replies = []; passed = []; end = []; logs = logs; reads = tt; took = nothing; ending = unasked; ends = rw c.unopened.ensures.cause (inr (refl, refl)) };
  kept = taken_away_only_if_kept _ _ _ _ _ _;
}

pub returns-then-not-connect : goal.returns-then-not-connect
returns-then-not-connect g c = record {
  read = let cut = rw c.if-not-connect.true at c.connect.ensures in
      record { completed = false; replies = []; passed = Ended ∷ []; end = []; logs = cut; reads = tt; took = nothing; ending = unasked; ends = rw c.unopened-then-not-connect.ensures.cause (inr (refl, refl)) };
  kept = taken_away_only_if_kept _ _ _ _ _ _;
}

pub returns : goal.returns
returns g c =
    let t = c.go_through-result.ensures in
    let logs = both g.P.Peer.tells (both g.P.Peer.tells (rw c.if-not-connect.false at c.connect.ensures) t.logs) c.hang_up.ensures in
    record {
      read = record {
        completed = t.completed;
        replies = t.replies;
        passed = Connected ∷ t.more;
        end = t.end;
        logs = rw append-nil at logs;
        reads = t.reads;
        took = t.took;
        ending = t.ending;
        ends = t.ends (Connected ∷ []) begins;
      };
      kept = taken_away_only_if_kept _ _ _ _ _ _;
    }
