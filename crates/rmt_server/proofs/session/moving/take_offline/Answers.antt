use Rattle.std.proofs.Common.{arith, ap}
use Rattle.std.proofs.lemmas.Grind.{common_steps}
use Rattle.rmt_server.proofs.Names.{drive_of}
use Rattle.rmt_server.proofs.session.moving.take_offline.Goals as goal

pub returns-in_default-take-clause-moves : goal.returns-in_default-take-clause-moves
returns-in_default-take-clause-moves g c seat =
    grind (arith, common_steps, c.in-Some.is, c.in_default-take.is, c.take.ensures.value, c.take.ensures.after)

pub offline-requires-clause-drive : goal.offline-requires-clause-drive
offline-requires-clause-drive g c = c.requires.below _ (ap drive_of c.in-Some.is)

pub returns-in-Ok-clause-moves : goal.returns-in-Ok-clause-moves
returns-in-Ok-clause-moves g c seat =
    grind (arith, common_steps, c.in-Some.is, c.in-Some-take.is, c.take.ensures, c.rewind.ensures, c.in-Ok.ensures.call)

pub returns-in-Err-clause-moves : goal.returns-in-Err-clause-moves
returns-in-Err-clause-moves g c seat =
    grind (arith, common_steps, c.in-Some.is, c.in-Some-take.is, c.take.ensures, c.rewind.ensures, c.in-Err.ensures, c.of_drive.ensures)
