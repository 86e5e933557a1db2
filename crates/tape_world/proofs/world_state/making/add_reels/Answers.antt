use Rattle.tape_world.proofs.Layers.{common_steps, ap, ◌∙◌, arith, is_err}
use Rattle.tape_world.proofs.Made.{next_reel, same_drives}
use Rattle.tape_world.proofs.Free.{next_fault}
use Rattle.tape_world.proofs.world_state.making.add_reels.Goals as goal

pub prove-unreachable-requires : goal.prove-unreachable-requires
prove-unreachable-requires c =
    let is
    = next_fault (λ n. n.now) c.args.stacks.now.library c.loop-name.stacks c.add_reel.new.self c.args.drive c.args.capacity c.args.names.now
    c.loop-name.name-index _ c.in-Err.fault
    c.add_reel.result c.in-Err.is c.add_reel.ensures.added (omega (arith, c.requires.there, c.loop-name.invariant.drives)) c.loop-name-test.true
    c.loop-name.invariant.added
    c.requires.once in
    grind (arith, common_steps, next_fault)

pub loop-name-preserved : goal.loop-name-preserved
loop-name-preserved c = record {
  added = next_reel (λ n. n.now) c.args.stacks.now.library c.loop-name.stacks c.add_reel.new.self c.args.drive c.args.capacity c.args.names.now
      c.loop-name.name-index _
      c.add_reel.result (omega (arith, c.requires.there, c.loop-name.invariant.drives)) c.loop-name-test.true c.add_reel.ensures.added
      (ap is_err c.in_default.is) c.loop-name.invariant.added;
  drives = same_drives c.loop-name.stacks c.add_reel.new.self c.args.drive _ c.args.capacity c.add_reel.result c.add_reel.ensures.added
      (ap is_err c.in_default.is)
      ∙ c.loop-name.invariant.drives;
  told = c.add_reel.ensures.told;
  quiet = λ bad. c.loop-name.invariant.quiet (c.add_reel.ensures.quiet bad);
}
