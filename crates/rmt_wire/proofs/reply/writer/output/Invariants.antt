use Rattle.rmt_wire.proofs.Words.{length, take, ◌-◌, ◌≡◌, ◌≤◌, Appends}
use Rattle.rmt_wire.proofs.reply.writer.output.Given as goal

abbrev pub invariant-loop-at : goal.invariant-loop-at
invariant-loop-at g l = record {
  within : l.at ≤ length l.text;
  written : Appends (g.W.Write.contents l.fn.out.inner) (g.W.Write.contents l.out.inner) (take l.at l.text);
  failures : l.out.failures ≡ l.fn.out.failures;
  left : l.out.left ≡ l.fn.out.left;
}

abbrev pub decreases-loop-at : goal.decreases-loop-at
decreases-loop-at g l = length l.text - l.at
