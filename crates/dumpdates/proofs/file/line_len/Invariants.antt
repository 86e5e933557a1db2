use Rattle.dumpdates.proofs.Terms.{◌≡◌, ◌+◌, drop, eqb, position_or_len, line_feed}
use Rattle.dumpdates.proofs.file.line_len.Given as goal

-- what was passed and what is still to pass are the whole length
abbrev pub invariant-loop-at : goal.invariant-loop-at
invariant-loop-at l =
    l.at + position_or_len (λ b. eqb b line_feed) (drop l.at l.bytes) ≡ position_or_len (λ b. eqb b line_feed) l.bytes
