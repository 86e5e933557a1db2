use Rattle.tape.proofs.Words.{◌≡◌, false, true, ◌≤◌, medium_kind_of, AreMediumCalls, HasWalkedRecords, way_left}
use Rattle.tape.proofs.MediumRuns.{Looks}
use Rattle.tape.proofs.Walks.{Goes}
use Rattle.tape.proofs.file_reel.walk.walk_records.Given as goal

abbrev pub invariant-loop-left : goal.invariant-loop-left
invariant-loop-left g l = record {
  run : AreMediumCalls (medium_kind_of g.M.Medium) (Looks (Goes (HasWalkedRecords l.fn.way) l.fn.count l.fn.offset l.left l.at)) 0 (false ≡ true)
      l.fn.medium l.medium;
  within : l.left ≤ l.fn.count;
}

abbrev pub decreases-loop-left : goal.decreases-loop-left
decreases-loop-left g l = way_left l.fn.way l.at
