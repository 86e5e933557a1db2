use Rattle.volume_check.proofs.Words.{◌≡◌, ◌≢◌, inr, ◌∙◌, sym, arith}
use Rattle.volume_check.proofs.Blocks.{count_bound, block_more, block_other}
use Rattle.volume_check.proofs.holding.Volume.with_block.Goals as goal

pub returns-then-self-len : goal.returns-then-self-len
returns-then-self-len c = λ bytes entries is fits volume.
    let v = c.args.self in
    inr (inr (block_other v.label v.blocks v.block_bytes v.end bytes entries c.requires c.if-self-ne0.true
    (λ same. c.if-self-len.true (same ∙ sym is)) volume))

pub returns : goal.returns
returns c = λ bytes entries is fits volume.
    let v = c.args.self in let bound = count_bound v.label v.blocks v.block_bytes v.end entries volume in
    let same : v.blocks ≢ 0 → v.block_bytes ≡ c.args.len = λ some. grind (arith, c.else-self-ne0.branch) in
    block_more v.label v.blocks c.saturating_add.result v.block_bytes c.args.len v.end bytes entries c.requires is same (omega arith) volume
