use Rattle.rsim_schedule.proofs.Words.{plain_event, no_play, play_more, failed_line}
use Rattle.rsim_schedule.proofs.Played.{not_made}
use Rattle.rsim_schedule.proofs.making.make.Goals as goal

pub returns-in-Ok : goal.returns-in-Ok
returns-in-Ok g c =
    (failed_line c.run.new.world.failure, play_more (plain_event c.args.event) no_play c.in-Ok.ensures.made, c.print_failed.ensures)

pub returns-in-Err-NotPossible : goal.returns-in-Err-NotPossible
returns-in-Err-NotPossible g c =
    not_made g.W.Write.contents c.args.world.now c.run.new.world (plain_event c.args.event) _ c.args.out.now c.in-Err-NotPossible.ensures.stopped

pub returns-in-Err-OutOfMemory : goal.returns-in-Err-OutOfMemory
returns-in-Err-OutOfMemory g c =
    not_made g.W.Write.contents c.args.world.now c.run.new.world (plain_event c.args.event) _ c.args.out.now c.in-Err-OutOfMemory.ensures.stopped
