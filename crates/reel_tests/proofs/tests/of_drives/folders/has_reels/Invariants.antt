use Rattle.std.specs.Prelude.{◌≡◌, length}
use Rattle.reel_tests.proofs.tests.of_drives.folders.has_reels.Given as goal

abbrev pub invariant-loop-path : goal.invariant-loop-path
invariant-loop-path l = length l.stacks.rows ≡ 2
