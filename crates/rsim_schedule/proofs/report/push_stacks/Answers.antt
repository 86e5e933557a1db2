use Rattle.rsim_schedule.proofs.Words.{◌∙◌, arith, plain_line, stack_line}
use Rattle.rsim_schedule.proofs.Reported.{shown_more}
use Rattle.rsim_schedule.proofs.report.push_stacks.Goals as goal

pub loop-drive-preserved : goal.loop-drive-preserved
loop-drive-preserved c =
    c.in_ok-push_stack.ensures
    ∙ shown_more (λ d. stack_line c.args.world.now d.name) plain_line c.args.text.now.items c.loop-drive.text.items c.args.drives.now c.loop-drive.drive-index
    c.drive-item.result (omega arith) c.drive-item.is c.loop-drive.invariant
