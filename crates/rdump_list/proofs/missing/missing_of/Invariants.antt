use Rattle.std.proofs.Common.{◌≤◌, ◌-◌}
use Rattle.std.specs.Prelude.{Contains}
use Rattle.rdump_list.specs.DumpFound.{AreMissing}
use Rattle.rdump_list.proofs.missing.missing_of.Given as goal

abbrev pub invariant-loop-done : goal.invariant-loop-done
invariant-loop-done l = (l.done ≤ l.volumes) × AreMissing (Contains l.there) l.done l.missing.items

abbrev pub decreases-loop-done : goal.decreases-loop-done
decreases-loop-done l = l.volumes - l.done
