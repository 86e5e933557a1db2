use Rattle.rsim_schedule.proofs.Words.{◌++◌, ◌∙◌, ap, arith, map, flat_map, plain_line, reel_line}
use Rattle.rsim_schedule.proofs.Reported.{shown_more}
use Rattle.rsim_schedule.proofs.report.push_all_reels.Goals as goal

pub loop-drive-preserved : goal.loop-drive-preserved
loop-drive-preserved c =
    c.in_ok-push_reels.ensures
    ∙ ap (λ reels. c.loop-drive.text.items ++ flat_map (reel_line c.args.world.now) (map (λ n. n.now) reels)) c.as_slice.ensures.value
    ∙ shown_more (λ d. flat_map (reel_line c.args.world.now) d.reels) plain_line c.args.text.now.items c.loop-drive.text.items
    c.args.drives.now c.loop-drive.drive-index c.drive-item.result (omega arith) c.drive-item.is c.loop-drive.invariant
