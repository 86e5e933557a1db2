use Rattle.tape_world.proofs.Layers.{common_steps, arith, ◌≡◌, sym, subst, SpellsCheckpoint, IsBacked}
use Rattle.tape_world.proofs.Saving.{at_index, back_payload}
use Rattle.tape_world.proofs.world_state.saving.resume_run.Goals as goal

-- the blocks that are given to the client are those of the run that is kept
same_blocks : (c : goal.After-deref) → c.trouble.new.self.blocks ≡ (c.requires.text c.in-Some.kept c.in-Some.is).0.payload.blocks
same_blocks c =
    let its = c.requires.text c.in-Some.kept c.in-Some.is in
    let same = at_index c.args.begun.now c.in-Some.kept.run its.0 c.index-begun-kept.result its.1 c.index-begun-kept.is in
    grind (arith, common_steps, at_index)

pub resume-requires : goal.resume-requires
resume-requires c run counts payload spells told =
    let its = c.requires.text c.in-Some.kept c.in-Some.is in
    let kept = subst (λ bytes. SpellsCheckpoint bytes its.0.run c.in-Some.kept.counts.items) (sym c.deref.ensures.value) its.2 in
    back_payload c.in-Some.kept c.args.begun.now its.0 c.trouble.new.self.blocks run payload its.1
    (subst (IsBacked c.args.begun.now) c.in-Some.is c.requires) (same_blocks c)
    (c.one_checkpoint.ensures.run c.deref.result.now run its.0.run counts c.in-Some.kept.counts.items spells kept) told

pub returns-in-Ok : goal.returns-in-Ok
returns-in-Ok c =
    let k = c.in-Some.kept in
    let its = c.requires.text k c.in-Some.is in
    let kept = subst (λ bytes. SpellsCheckpoint bytes its.0.run k.counts.items) (sym c.deref.ensures.value) its.2 in
    let same = c.in-Ok.ensures.resumes its.0.run k.counts.items kept in
    let index = at_index c.args.begun.now k.run its.0 c.index-begun-kept.result its.1 c.index-begun-kept.is in
    let at = c.in-Ok.client.at in
    grind (arith, common_steps, at_index)
