use Rattle.std.proofs.Common.{take}
use Rattle.rdump_list.specs.DumpFound.{AreNumbersOf}
use Rattle.rdump_list.proofs.catalog_dump.numbers_of.Given as goal

abbrev pub invariant-loop-reel : goal.invariant-loop-reel
invariant-loop-reel l = AreNumbersOf l.run (take l.reel-index l.reels) l.numbers.items
