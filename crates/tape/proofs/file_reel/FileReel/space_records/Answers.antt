use Rattle.tape.proofs.Words.{sym}
use Rattle.tape.proofs.ReelCalls.{spaced, spaces_records}
use Rattle.tape.proofs.file_reel.FileReel.space_records.Goals as goal

pub returns : goal.returns
returns g c =
    rw (sym c.self.view_is) (spaced _ _ c.in_ok-walked.walked c.answer.result (spaces_records c.args.way c.args.count) c.in_ok-walked.ensures.run
    c.in_ok-walked.ensures.within c.answer.ensures)
