use Rattle.std.proofs.Common.{◌≡◌, ◌++◌, ◌∷◌, [], arith}
use Rattle.restore.proofs.ChainMore.{chain_push}
use Rattle.restore.proofs.chain.Chain.add.Goals as goal

pub returns-clause-chain : goal.returns-clause-chain
returns-clause-chain c = λ reels blocks found chain.
    (let volumes = c.args.self.now.volumes.items in
    let items : c.push.new.self.items ≡ volumes ++ c.args.volume ∷ [] = grind (arith, c.push.ensures.items, c.is_err.ensures.negation, c.if-is_err.false) in
    let next = c.in_ok-check_next.ensures in
    rw items (chain_push reels volumes c.args.self.now.end c.args.volume chain next.number next.first next.alike (blocks, found)))
