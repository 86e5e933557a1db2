use Rattle.tape_world.proofs.Layers.{common_steps, arith, refl, sym}
use Rattle.tape_world.proofs.Online.{first_found, none_more}
use Rattle.tape_world.proofs.world.reels.find_online.Goals as goal

pub returns-in-Some : goal.returns-in-Some
returns-in-Some c =
    sym (first_found c.args.name.now c.args.host.now.server.library c.args.host.now.server.sides c.loop-place.place c.in-Some.reel.now.tape _
    c.loop-place.invariant
    c.in-Some.ensures refl)

pub loop-place-preserved : goal.loop-place-preserved
loop-place-preserved c = grind (arith, common_steps, none_more)
