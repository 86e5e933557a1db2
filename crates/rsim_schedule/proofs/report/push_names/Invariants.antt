use Rattle.rsim_schedule.proofs.Words.{◌≡◌, ◌++◌, take, names_of, names_text}
use Rattle.rsim_schedule.proofs.report.push_names.Given as goal

abbrev pub invariant-loop-reel : goal.invariant-loop-reel
invariant-loop-reel l =
    l.text.items ≡ l.fn.text.items ++ l.keyword ++ names_text (names_of (take l.reel-index l.reels))
