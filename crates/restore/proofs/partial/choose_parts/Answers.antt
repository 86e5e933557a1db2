use Rattle.std.proofs.lemmas.List.Elements.{All-weaker}
use Rattle.restore.proofs.ChainMore.{IsOnReel}
use Rattle.restore.proofs.Spacing.{present}
use Rattle.restore.specs.Found.{IsWantedVolume}
use Rattle.restore.proofs.partial.choose_parts.Goals as goal

pub returns-clause-present : goal.returns-clause-present
returns-clause-present g c = λ reels held.
    (let found = c.in_ok-found.found.items in
    let are = c.in_ok-found.ensures.found reels held in
    let (x, holds, same) = c.find_volumes.ensures.same reels held in
    let (one, among) = c.in_ok-parts.ensures.spaced reels (rw same at holds) (All-weaker (IsWantedVolume reels c.args.wanted.now) (IsOnReel reels) (λ f good. good.2) found are.each) in
    present reels c.args.wanted.now found c.in_ok-parts.parts.volumes.items c.in_ok-parts.parts.size are one among c.in_ok-parts.ensures.from)
