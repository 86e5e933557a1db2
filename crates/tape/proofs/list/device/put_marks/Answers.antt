use Rattle.tape.proofs.Words.{replicate, sym, length-replicate, take-replicate, Mark}
use Rattle.tape.proofs.Held.{IsLeft, settled}
use Rattle.tape.proofs.list.device.put_marks.Goals.{in-Some+in_ok-put_marks, in_default}
use Rattle.tape.proofs.list.device.put_marks.Goals as goal

pub returns-clause-step : goal.returns-clause-step
returns-clause-step c =
    let written = replicate c.args.count Mark in
    let put : IsLeft c.left.result written c.args.reel.now c.match-left.reel
    = elim c.match-left.branch [
      | in-Some+in_ok-put_marks w ↦
          rw (w.in-Some.is, w.reel-is, take-replicate w.in-Some.left c.args.count Mark w.in-Some.ensures.within) w.in_ok-put_marks.ensures.run.step
      | in_default w ↦ rw w.in_default.is w.reel-is
    ] in
    settled c.args.trouble written c.left.result c.args.reel.now c.match-left.reel c.finish_write.new.reel c.finish_write.result
    (rw (length-replicate c.args.count Mark) c.left.ensures.left) put (rw (sym c.offset-start.ensures) c.finish_write.ensures)
