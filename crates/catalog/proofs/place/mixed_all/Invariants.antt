use Rattle.std.proofs.Common.{◌≡◌, take}
use Rattle.std.specs.List.{fold}
use Rattle.catalog.specs.Places.{mixed}
use Rattle.catalog.proofs.place.mixed_all.Given as goal

abbrev pub invariant-loop-byte : goal.invariant-loop-byte
invariant-loop-byte l = l.all ≡ fold mixed l.key (take l.byte-index l.bytes)
