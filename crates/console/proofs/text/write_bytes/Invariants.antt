use Rattle.std.proofs.Common.{◌≡◌, ◌≤◌, ℕ, List, ◌++◌, length}
use Rattle.std.specs.Fmt.{HasWritten, IsPlainFormatter}
use Rattle.console.specs.Printing.{printable, printable_within}
use Rattle.console.proofs.text.write_bytes.Given as goal

abbrev pub invariant-chunks : goal.invariant-chunks
invariant-chunks g l =
    IsPlainFormatter l.fn.f
    → (done : List ℕ) × HasWritten g.W.Write.write_str_gives l.fn.f done l.f
    × (k : ℕ) × (length l.chunks.rest.now ≤ k) × (done ++ printable_within k l.chunks.rest.now ≡ printable l.fn.bytes)
