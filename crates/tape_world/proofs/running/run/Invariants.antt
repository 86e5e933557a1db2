use Rattle.tape_world.proofs.Layers.{Runs, plain_event, map, take}
use Rattle.tape_world.proofs.running.run.Given as goal

abbrev pub invariant-loop-i : goal.invariant-loop-i
invariant-loop-i l = Runs l.fn.world (take l.i (map plain_event l.events)) l.world
