use Rattle.rsim_schedule.proofs.Words.{◌≡◌, map, take, plain_line}
use Rattle.tape_world.specs.Making.{plain_drive_spec}
use Rattle.rsim_schedule.proofs.setup.specs_of.Given as goal

abbrev pub invariant-loop-drive : goal.invariant-loop-drive
invariant-loop-drive l = map plain_drive_spec l.specs.items ≡ map plain_line (take l.drive-index l.drives)
