use Rattle.rsim_schedule.proofs.Words.{◌++◌, ◌∙◌, ap, arith, codes}
use Rattle.rsim_schedule.proofs.Reported.{shown_more}
use Rattle.rsim_schedule.proofs.report.push_names.Goals as goal

pub loop-reel-preserved : goal.loop-reel-preserved
loop-reel-preserved c =
    c.in_ok-push_name.ensures ∙ ap (λ name. c.loop-reel.text.items ++ (codes " " ++ name)) c.name.ensures
    ∙ shown_more (λ name. codes " " ++ name) (λ reel. reel.name) (c.args.text.now.items ++ c.args.keyword.now) c.loop-reel.text.items
    c.args.reels.now c.loop-reel.reel-index c.reel-item.result (omega arith) c.reel-item.is c.loop-reel.invariant
