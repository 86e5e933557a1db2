use Rattle.dumpdates.proofs.Terms.{◌≡◌, max, drop, base_of, plain_all}
use Rattle.dumpdates.proofs.dates.Dates.base.Given as goal

-- the greatest so far and the rest give the base date
abbrev pub invariant-loop-entry : goal.invariant-loop-entry
invariant-loop-entry l =
    max l.greatest (base_of (plain_all (drop l.entry-index l.entry-items)) l.name l.level)
    ≡ base_of (plain_all l.entry-items) l.name l.level
