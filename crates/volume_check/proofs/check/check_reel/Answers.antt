use Rattle.volume_check.proofs.Words.{SpellsReel, arith}
use Rattle.volume_check.proofs.check.check_reel.Goals as goal

pub returns-clause-told : goal.returns-clause-told
returns-clause-told g c = λ bytes entries held spelled.
    (let (x, holds, (same, long)) = c.len.ensures.step bytes held in let (y, after, (is, tallied)) = c.add_entries.ensures.step x holds in
    let same_spelled : SpellsReel x entries = rw same spelled in grind (arith, same, long, tallied))
