use Rattle.drives.proofs.Names.{the_view}
use Rattle.std.proofs.Common.{◌<◌, vec_capacity, refl, sym, subst, ap, ◌∙◌, ◌++◌, ◌∷◌, []}
use Rattle.drives.proofs.Elsewhere.{value_some}
use Rattle.drives.proofs.ListLibrary.{stocked_moved, moved_is, read_some, room_some}
use Rattle.drives.proofs.list.ListStacks.move_first.Goals as goal

pub remove_first-listed-requires : goal.remove_first-listed-requires
remove_first-listed-requires c =
    read_some (the_view c.self.inside) c.args.self.now c.args.drive c.index_mut-chosen.result.now c.self.view_is c.requires.drive c.index_mut-chosen.ensures.value
    (value_some (the_view c.self.inside) c.args.self.now c.args.drive _ _ c.self.view_is c.self.invariant c.requires.latched)

pub push_reserved-requires : goal.push_reserved-requires
push_reserved-requires c =
    subst (λ n. n < vec_capacity c.self.inside.bin) (sym c.self.inside.bin.ok.0) (room_some (the_view c.self.inside) c.args.self.now c.args.drive _ _ c.self.view_is c.requires.drive c.self.invariant
    (value_some (the_view c.self.inside) c.args.self.now c.args.drive _ _ c.self.view_is c.self.invariant c.requires.latched))

pub invariant_of-self : goal.invariant_of-self
invariant_of-self c =
    stocked_moved (the_view c.self.inside) c.args.self.now c.args.drive c.index_mut-chosen.result.now c.remove_first-listed.new.self c.remove_first-listed.result c.args.reel c.push_reserved.new.self.items _ _ _
    c.self.view_is c.requires.drive (value_some (the_view c.self.inside) c.args.self.now c.args.drive _ _ c.self.view_is c.self.invariant c.requires.latched)
    c.index_mut-chosen.ensures.value c.remove_first-listed.ensures.first c.remove_first-listed.ensures.name
    (c.push_reserved.ensures.items ∙ ap (λ x. c.self.inside.bin.items ++ x ∷ []) c.put.ensures) c.push_reserved.ensures.capacity c.self.invariant

pub returns-then-self-clause-once : goal.returns-then-self-clause-once
returns-then-self-clause-once c = rw (← c.self.view_is) c.self.invariant.once

pub returns-then-self-clause-back : goal.returns-then-self-clause-back
returns-then-self-clause-back c = refl

pub returns-clause-moved : goal.returns-clause-moved
returns-clause-moved c = (
  ap (λ s. s.trouble) (sym c.self.view_is) ∙ c.if-self.false,
  moved_is c.args.drive c.args.reel c.self.view_is c.requires.drive c.index_mut-chosen.ensures.value c.remove_first-listed.ensures.first c.remove_first-listed.ensures.name (cc),
)

pub returns-clause-once : goal.returns-clause-once
returns-clause-once c = rw (← c.self.view_is) c.self.invariant.once
