use Rattle.rsim_schedule.proofs.Words.{◌≡◌, ◌++◌, map, take, flat_map, plain_line, reel_line}
use Rattle.rsim_schedule.proofs.report.push_all_reels.Given as goal

abbrev pub invariant-loop-drive : goal.invariant-loop-drive
invariant-loop-drive l =
    l.text.items ≡ l.fn.text.items ++ flat_map (λ d. flat_map (reel_line l.world) d.reels) (map plain_line (take l.drive-index l.drives))
