-- What left the reader is in the writer, and is counted.
use Rattle.std.proofs.Common.{◌≡◌, ◌<◌, ℕ, List, length}
use Rattle.std.specs.Io.KnownBytes.{Appends, Consumes}
use Rattle.std.specs.Io.Iter.{u64_saturate}
use Rattle.whole_files.proofs.spool.copy_through.Given as goal

abbrev pub invariant-loop : goal.invariant-loop
invariant-loop g l = (moved : List ℕ) × (0 < length l.buffer) × (l.copied ≡ u64_saturate (length moved))
    × Consumes (g.I.Read.remaining l.initial.from) (g.I.Read.remaining l.from) moved
    × Appends (g.O.Write.contents l.initial.to) (g.O.Write.contents l.to) moved
