use Rattle.rmt_wire.proofs.Words.{arith, ◌==◌, common_steps}
use Rattle.std.proofs.lemmas.Iterator.{YieldsList-from_slice}
use Rattle.std.proofs.lemmas.Iterator.Search.{position_from_yields_List}
use Rattle.rmt_wire.proofs.find.find_byte.Goals as goal

pub returns-clause-place : goal.returns-clause-place
returns-clause-place c =
    position_from_yields_List (λ b. b == c.args.byte) _ _ _ c.position.ensures.ran (YieldsList-from_slice c.args.bytes.now c.iter.ensures.rest)
    (λ x b q k. grind (arith, common_steps))
