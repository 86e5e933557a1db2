use Rattle.remote_tape.proofs.Words.{◌≤◌, ℕ, List, length, map, plain_wanted, IsReplyAwaited, Logs, Given}
use Rattle.remote_tape.proofs.tape.hear.Given as goal

abbrev pub invariant-loop-turn : goal.invariant-loop-turn
invariant-loop-turn g l =
    (bytes : List ℕ) × IsReplyAwaited (plain_wanted l.fn.wanted) l.reader bytes × Logs g.P.Peer.tells l.fn.peer l.peer (map Given bytes) × (l.turn ≤ length bytes)
