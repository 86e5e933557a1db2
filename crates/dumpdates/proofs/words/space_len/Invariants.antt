use Rattle.dumpdates.proofs.Terms.{◌≡◌, ◌+◌, drop, prefix_len, is_space}
use Rattle.dumpdates.proofs.words.space_len.Given as goal

-- what was passed and what is still to pass are the whole length
abbrev pub invariant-loop-at : goal.invariant-loop-at
invariant-loop-at l = l.at + prefix_len is_space (drop l.at l.bytes) ≡ prefix_len is_space l.bytes
