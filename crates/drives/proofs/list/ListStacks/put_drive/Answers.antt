use Rattle.std.proofs.Common.{◌≡◌, true, [], ◌∷◌, ◌++◌, not, is_ok, arith, ap, ◌∙◌}
use Rattle.drives.specs.TapeLibrary.{library, drive_with}
use Rattle.drives.proofs.ListLibrary.{stocked_kept, keeps_drive}
use Rattle.drives.proofs.list.ListStacks.put_drive.Goals as goal

pub invariant_of-self-2 : goal.invariant_of-self-2
invariant_of-self-2 c =
    let ok : is_ok c.push.result ≡ true = c.is_err.ensures.negation ∙ ap not c.if-is_err.false in
    let items = rw ok at c.push.ensures.items in
    let before = library c.self.inside.drives.items c.self.inside.bin.items in
    let is : c.push.new.self.items ≡ before.drives ++ drive_with c.args.name.now [] ∷ [] = items ∙ ap (λ r. before.drives ++ r ∷ []) c.in_ok-chosen.ensures in
    rw is (stocked_kept before _ c.self.inside.reels _ _ (keeps_drive before c.args.name.now) (omega arith) c.self.invariant)
