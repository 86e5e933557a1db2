use Rattle.tape_world.proofs.Layers.{common_steps, arith}
use Rattle.tape_world.proofs.Made.{drive_laid}
use Rattle.tape_world.proofs.Free.{reels_once}
use Rattle.tape_world.proofs.world_state.making.add_drive.Goals as goal

pub add_reels-requires-clause-once : goal.add_reels-requires-clause-once
add_reels-requires-clause-once c =
    reels_once c.args.stacks.now c.add_drive.new.self c.args.drive.now c.in-Ok.number c.in-Ok.ensures.added c.requires.once

pub returns-clause-added : goal.returns-clause-added
returns-clause-added c = grind (arith, common_steps, drive_laid)
