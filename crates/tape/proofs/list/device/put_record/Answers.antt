use Rattle.tape.proofs.Words.{◌≡◌, [], ◌∷◌, sym, arith, take_all, Record}
use Rattle.tape.proofs.Held.{IsLeft, settled}
use Rattle.tape.proofs.list.device.put_record.Goals.{in-Some+then-left-gt0+in_ok-put_record, in-Some+else-left-gt0+in_ok-cut, in_default}
use Rattle.tape.proofs.list.device.put_record.Goals as goal

pub returns-clause-step : goal.returns-clause-step
returns-clause-step c =
    let written = Record c.args.bytes.now ∷ [] in
    let put : IsLeft c.left.result written c.args.reel.now c.match-left.reel
    = elim c.match-left.branch [
      | in-Some+then-left-gt0+in_ok-put_record w ↦
          rw (w.in-Some.is, w.reel-is, take_all w.in-Some.left written (omega arith)) w.in_ok-put_record.ensures.run.step
      | in-Some+else-left-gt0+in_ok-cut w ↦
          let none : w.in-Some.left ≡ 0 = omega arith in
          rw (w.in-Some.is, w.reel-is, none) w.in_ok-cut.ensures.run.step
      | in_default w ↦ rw w.in_default.is w.reel-is
    ] in
    settled c.args.trouble written c.left.result c.args.reel.now c.match-left.reel c.finish_write.new.reel c.finish_write.result
    c.left.ensures.left put (rw (sym c.offset-start.ensures) c.finish_write.ensures)
