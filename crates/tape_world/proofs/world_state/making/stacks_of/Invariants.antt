use Rattle.tape_world.proofs.Layers.{IsLibrary, library_of, StacksCanFail, laid_library, ◌≡◌, drop}
use Rattle.tape_world.proofs.Made.{laid_after}
use Rattle.tape_world.proofs.world_state.making.stacks_of.Given as goal

abbrev pub invariant-loop-drive : goal.invariant-loop-drive
invariant-loop-drive l = record {
  laid : laid_after l.stacks.library (drop l.drive-index l.drives) ≡ laid_library l.drives;
  told : IsLibrary l.stacks (library_of l.stacks);
  quiet : StacksCanFail l.stacks → ⊥;
}
