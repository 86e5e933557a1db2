use Rattle.std.proofs.Common.{◌≡◌, ◌++◌, take, flat_map}
use Rattle.rdump_list.specs.FoundText.{next_range_text}
use Rattle.rdump_list.proofs.catalog_dump.push_more.Given as goal

abbrev pub invariant-loop-range : goal.invariant-loop-range
invariant-loop-range l = l.text.items ≡ l.fn.text.items ++ flat_map next_range_text (take l.range-index l.ranges)
