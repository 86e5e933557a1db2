use Rattle.tape.proofs.Words.{◌≡◌, ◌++◌, length, plain_entries, entries_in}
use Rattle.tape.proofs.scan.read_entries.Given as goal

abbrev pub invariant-loop-bytes : goal.invariant-loop-bytes
invariant-loop-bytes l = entries_in l.file ≡ plain_entries l.entries.items ++ entries_in l.rest

abbrev pub decreases-loop-bytes : goal.decreases-loop-bytes
decreases-loop-bytes l = length l.rest
