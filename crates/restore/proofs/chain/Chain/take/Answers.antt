use Rattle.std.proofs.lemmas.Result.{IfOk-weaker}
use Rattle.restore.proofs.ChainMore.{among_added, among_equal, ok_both, reel_within}
use Rattle.restore.proofs.chain.Chain.take.Goals as goal

pub returns-in_default-clause-chain : goal.returns-in_default-clause-chain
returns-in_default-clause-chain g c = λ reels blocks held found chain.
    IfOk-weaker c.add.result _ _ (λ _ both. (both.0, rw both.1 (among_added reels c.args.self.now.volumes.items c.args.volume)))
    (ok_both c.add.result _ _ (c.add.ensures.chain reels blocks found chain) c.add.ensures.added)

pub returns-then-branch-clause-chain : goal.returns-then-branch-clause-chain
returns-then-branch-clause-chain g c = λ reels blocks held found chain.
    (let volumes = c.args.self.now.volumes.items in
    let of = rw c.deref.ensures.value at c.in-Some.ensures in
    let within = reel_within reels volumes c.args.self.now.end c.in-Some.reel chain of in (
      chain,
      among_equal reels volumes c.in-Some.reel c.args.volume.reel of (c.in_ok-are_equal.ensures.equal reels held within found.0.0 c.if-branch.true),
    ))
