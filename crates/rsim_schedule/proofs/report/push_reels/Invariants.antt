use Rattle.rsim_schedule.proofs.Words.{◌≡◌, ◌++◌, map, take, flat_map, reel_line}
use Rattle.rsim_schedule.proofs.report.push_reels.Given as goal

abbrev pub invariant-loop-reel : goal.invariant-loop-reel
invariant-loop-reel l =
    l.text.items ≡ l.fn.text.items ++ flat_map (reel_line l.world) (map (λ n. n.now) (take l.reel-index l.reels))
