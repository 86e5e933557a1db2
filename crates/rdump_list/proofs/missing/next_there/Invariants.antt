use Rattle.std.proofs.Common.{take}
use Rattle.rdump_list.specs.DumpFound.{IsLeastFrom}
use Rattle.rdump_list.proofs.missing.next_there.Given as goal

abbrev pub invariant-loop-number : goal.invariant-loop-number
invariant-loop-number l = IsLeastFrom (take l.number-index l.there) l.from l.volumes l.next
