use Rattle.dumpdates.proofs.Terms.{◌≡◌, ◌+◌, drop, position_or_len, is_space}
use Rattle.dumpdates.proofs.words.word_len.Given as goal

-- what was passed and what is still to pass are the whole length
abbrev pub invariant-loop-at : goal.invariant-loop-at
invariant-loop-at l = l.at + position_or_len is_space (drop l.at l.bytes) ≡ position_or_len is_space l.bytes
