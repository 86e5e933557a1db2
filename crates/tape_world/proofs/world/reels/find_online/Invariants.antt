use Rattle.tape_world.proofs.Layers.{◌≡◌, None, take, first_tape_online}
use Rattle.tape_world.proofs.world.reels.find_online.Given as goal

abbrev pub invariant-loop-place : goal.invariant-loop-place
invariant-loop-place l = first_tape_online l.name l.host.server.library (take l.place l.host.server.sides) ≡ None
