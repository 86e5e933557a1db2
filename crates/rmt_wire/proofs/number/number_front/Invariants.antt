use Rattle.rmt_wire.proofs.Words.{drop, ◌≡◌, ◌≤◌, number_front, number_from}
use Rattle.rmt_wire.proofs.number.number_front.Given as goal

-- the number goes on as the rest says
abbrev pub invariant-loop-len : goal.invariant-loop-len
invariant-loop-len l =
    (number_from l.place l.value l.len (drop l.len l.bytes) ≡ number_front l.place l.bytes) × (l.value ≤ 2147483647) × (l.len ≤ 10)
