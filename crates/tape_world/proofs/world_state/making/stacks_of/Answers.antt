use Rattle.tape_world.proofs.Free.{drive_free, drive_once, next_drive}
use Rattle.tape_world.proofs.world_state.making.stacks_of.Goals as goal

pub add_drive-requires-clause-free : goal.add_drive-requires-clause-free
add_drive-requires-clause-free c =
    drive_free c.loop-drive.stacks.library c.args.drives.now c.loop-drive.drive-index _ (next_drive c.args.drives.now c.loop-drive.drive-index _
    c.loop-drive-test.true)
    c.loop-drive.invariant.laid c.requires

pub add_drive-requires-clause-once : goal.add_drive-requires-clause-once
add_drive-requires-clause-once c =
    drive_once c.loop-drive.stacks.library c.args.drives.now c.loop-drive.drive-index _ (next_drive c.args.drives.now c.loop-drive.drive-index _
    c.loop-drive-test.true)
    c.loop-drive.invariant.laid c.requires
