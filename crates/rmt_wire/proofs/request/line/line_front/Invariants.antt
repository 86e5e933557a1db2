use Rattle.rmt_wire.proofs.Words.{drop, ◌≡◌, line_from, line_front}
use Rattle.rmt_wire.proofs.request.line.line_front.Given as goal

-- the line goes on as the rest says
abbrev pub invariant-loop-len : goal.invariant-loop-len
invariant-loop-len l = line_from l.len (drop l.len l.bytes) ≡ line_front l.bytes
