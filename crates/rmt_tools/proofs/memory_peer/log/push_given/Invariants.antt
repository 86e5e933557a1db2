use Rattle.std.proofs.Common.{◌≡◌, ◌++◌, ◌+◌, ◌≤◌, length, map, take}
use Rattle.std.specs.Vec.{vec_capacity, vec_len}
use Rattle.remote_tape.specs.declared.peer.Passed.TheVariants.{Given}
use Rattle.rmt_tools.proofs.memory_peer.log.push_given.Given as goal

abbrev pub invariant-loop-byte : goal.invariant-loop-byte
invariant-loop-byte l =
    (l.passed.items ≡ l.initial.passed.items ++ map Given (take l.byte-index l.bytes))
    × (vec_len l.passed + length l.bytes ≤ vec_capacity l.passed + l.byte-index)
