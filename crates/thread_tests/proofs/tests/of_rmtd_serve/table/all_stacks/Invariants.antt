use Rattle.std.proofs.Common.{◌≡◌, ◌-◌, ◌≤◌, All, length}
use Rattle.thread_tests.proofs.tests.of_rmtd_serve.table.all_stacks.Given as goal

abbrev pub invariant-loop-alloc : goal.invariant-loop-alloc
invariant-loop-alloc l = (length l.all.items ≤ 32) × All (λ s. length s.library.drives ≡ 2) l.all.items

abbrev pub decreases-loop-alloc : goal.decreases-loop-alloc
decreases-loop-alloc l = 32 - length l.all.items
