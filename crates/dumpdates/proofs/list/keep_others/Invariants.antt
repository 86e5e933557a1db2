use Rattle.dumpdates.proofs.Terms.{FiltersInPlace, plain_entry, is_other}
use Rattle.dumpdates.proofs.list.keep_others.Given as goal

abbrev pub invariant-loop-at : goal.invariant-loop-at
invariant-loop-at l = FiltersInPlace (is_other (plain_entry l.entry)) l.initial.entries l.entries l.kept l.at
