use Rattle.std.proofs.Common.{◌≤◌, length}
use Rattle.file_medium.proofs.file_medium.fill.Given as goal

abbrev pub invariant-loop : goal.invariant-loop
invariant-loop l = l.filled ≤ length l.into
