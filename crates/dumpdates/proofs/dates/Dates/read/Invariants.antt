use Rattle.dumpdates.proofs.Terms.{◌+◌, ◌≤◌, length, lines_of, plain_all}
use Rattle.dumpdates.proofs.Reading.{HasRead}
use Rattle.dumpdates.proofs.dates.Dates.read.Given as goal

-- the lines so far are read, and the rest has the further ones
abbrev pub invariant-loop-entries : goal.invariant-loop-entries
invariant-loop-entries l = record {
  read : HasRead l.fn.bytes (lines_of l.rest) l.number (plain_all l.entries.items);
  room : l.number + length l.rest ≤ length l.fn.bytes + 1;
}

abbrev pub decreases-loop-entries : goal.decreases-loop-entries
decreases-loop-entries l = length l.rest
