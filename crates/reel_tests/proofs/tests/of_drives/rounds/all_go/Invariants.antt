use Rattle.std.specs.Prelude.{◌≡◌, length}
use Rattle.reel_tests.proofs.tests.of_drives.rounds.all_go.Given as goal

abbrev pub invariant-loop-row : goal.invariant-loop-row
invariant-loop-row l = length l.stacks.library.drives ≡ 2
