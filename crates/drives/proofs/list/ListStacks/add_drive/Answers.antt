use Rattle.std.proofs.Common.{refl}
use Rattle.drives.proofs.ListLibrary.{drive_told, drive_quiet, named_some, told}
use Rattle.drives.proofs.list.ListStacks.add_drive.Goals as goal

pub returns-then-is_some-clause-added : goal.returns-then-is_some-clause-added
returns-then-is_some-clause-added c = (named_some c.args.name.now c.args.self.now.library c.number_of.result c.number_of.ensures.found c.if-is_some.ensures, refl)

pub returns-then-is_some-clause-told : goal.returns-then-is_some-clause-told
returns-then-is_some-clause-told c = told c.args.self.now c.number_of.ensures.once

pub returns-clause-told : goal.returns-clause-told
returns-clause-told c = drive_told c.args.self.now c.put_drive.new.self c.args.name.now c.put_drive.result c.number_of.ensures.once c.put_drive.ensures

pub returns-clause-quiet : goal.returns-clause-quiet
returns-clause-quiet c = drive_quiet c.args.self.now c.put_drive.new.self c.args.name.now c.put_drive.result c.put_drive.ensures
