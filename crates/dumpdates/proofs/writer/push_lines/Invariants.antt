use Rattle.dumpdates.proofs.Terms.{◌≡◌, ◌++◌, take, plain_all, written}
use Rattle.dumpdates.proofs.writer.push_lines.Given as goal

-- the lines of the entries so far
abbrev pub invariant-loop-entry : goal.invariant-loop-entry
invariant-loop-entry l = l.out.items ≡ l.fn.out.items ++ written (plain_all (take l.entry-index l.fn.entries))
