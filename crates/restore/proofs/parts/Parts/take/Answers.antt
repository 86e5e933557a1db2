use Rattle.std.proofs.lemmas.Result.{IfOk-weaker}
use Rattle.restore.proofs.ChainMore.{among_added, among_equal, ok_both}
use Rattle.restore.proofs.Spacing.{part_within}
use Rattle.restore.proofs.parts.Parts.take.Goals as goal

pub returns-in_default-clause-spaced : goal.returns-in_default-clause-spaced
returns-in_default-clause-spaced g c = λ reels blocks held found one spacing.
    IfOk-weaker c.add.result _ _ (λ _ both. (both.0, rw both.1 (among_added reels c.args.self.now.volumes.items c.args.volume)))
    (ok_both c.add.result _ _ (c.add.ensures.spaced reels blocks found one spacing) c.add.ensures.added)

pub returns-then-branch-clause-spaced : goal.returns-then-branch-clause-spaced
returns-then-branch-clause-spaced g c = λ reels blocks held found one spacing.
    (let volumes = c.args.self.now.volumes.items in
    let of = rw c.deref.ensures.value at c.in-Some.ensures in
    let within = part_within reels c.args.self.now.size volumes c.in-Some.reel one of in (
      one,
      among_equal reels volumes c.in-Some.reel c.args.volume.reel of (c.in_ok-are_equal.ensures.equal reels held within found.0.0 c.if-branch.true),
    ))
