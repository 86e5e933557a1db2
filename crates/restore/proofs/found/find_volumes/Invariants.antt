use Rattle.std.proofs.Common.{◌≡◌, ◌<◌, ℕ, List, length}
use Rattle.tape.specs.Failures.{Steps}
use Rattle.restore.specs.Found.{AreFound}
use Rattle.restore.proofs.found.find_volumes.Given as goal

abbrev pub invariant-loop-number : goal.invariant-loop-number
invariant-loop-number g l = record {
  same : Steps g.S.Shelf.holds l.fn.shelf l.shelf (λ old new. new ≡ old);
  room : 0 < length l.room;
  found : (reels : List (List ℕ)) → g.S.Shelf.holds l.fn.shelf reels → AreFound reels l.wanted l.number l.found.items;
}
