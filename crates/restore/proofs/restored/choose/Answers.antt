use Rattle.std.proofs.Common.{◌≡◌, ap, length, subst}
use Rattle.std.proofs.lemmas.List.Elements.{All-weaker}
use Rattle.std.specs.Prelude.{IfSome}
use Rattle.restore.proofs.Chosen.{chosen}
use Rattle.restore.proofs.ChainMore.{IsOnReel}
use Rattle.restore.specs.Chain.{IsComplete}
use Rattle.restore.specs.Found.{IsWantedVolume}
use Rattle.restore.specs.Restored.{PlainWanted}
use Rattle.restore.proofs.restored.choose.Goals as goal

pub returns-clause-chosen : goal.returns-clause-chosen
returns-clause-chosen g c = λ reels held.
    (let found = c.in_ok-found.found.items in
    let are = c.in_ok-found.ensures.found reels held in
    let (x, holds, same) = c.find_volumes.ensures.same reels held in
    let (chain, among) = c.in_ok-chain.ensures.chain reels (rw same at holds) (All-weaker (IsWantedVolume reels c.args.wanted.now) (IsOnReel reels) (λ f good. good.2) found are.each) in
    chosen reels c.args.wanted.now found c.in_ok-chain.chain.volumes.items c.in_ok-chain.chain.end are chain among c.in_ok-chain.ensures.from
    (subst (λ n. IsComplete n c.in_ok-chain.chain.end c.in_ok-chain.chain.volumes.items) (ap (λ (w : PlainWanted). w.length) c.wanted.view_is) c.in_ok-check_length.ensures)
    (subst (λ v. IfSome v (λ count. length c.in_ok-chain.chain.volumes.items ≡ count)) (ap (λ (w : PlainWanted). w.volumes) c.wanted.view_is) c.in_ok-check_volumes.ensures))
