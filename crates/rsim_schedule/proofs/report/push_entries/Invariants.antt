use Rattle.rsim_schedule.proofs.Words.{◌≡◌, ◌++◌, take, flat_map, entry_text, entries_of_reel}
use Rattle.rsim_schedule.proofs.report.push_entries.Given as goal

abbrev pub invariant-loop-place : goal.invariant-loop-place
invariant-loop-place l = l.text.items ≡ l.fn.text.items ++ flat_map entry_text (take l.place (entries_of_reel l.world l.reel))
