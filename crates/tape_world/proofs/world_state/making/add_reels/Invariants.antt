use Rattle.tape_world.proofs.Layers.{IsLibrary, library_of, StacksCanFail, blank_slots, with_slots, ◌≡◌, length, map, drop}
use Rattle.tape_world.proofs.world_state.making.add_reels.Given as goal

abbrev pub invariant-loop-name : goal.invariant-loop-name
invariant-loop-name l = record {
  added : with_slots l.stacks.library l.drive (blank_slots l.capacity (map (λ n. n.now) (drop l.name-index l.names)))
      ≡ with_slots l.initial.stacks.library l.drive (blank_slots l.capacity (map (λ n. n.now) l.names));
  drives : length l.stacks.library.drives ≡ length l.initial.stacks.library.drives;
  told : IsLibrary l.stacks (library_of l.stacks);
  quiet : StacksCanFail l.stacks → StacksCanFail l.initial.stacks;
}
