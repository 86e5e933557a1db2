use Rattle.hold_table.proofs.Names.{ℕ, refl, ◌∙◌, arith, length-set, get_or-set_at, get_or-set_other, DRIVE_LIMIT}
use Rattle.hold_table.proofs.Lists.{all_one, reads}
use Rattle.hold_table.proofs.together.words_of.Goals as goal

pub loop-drive-init : goal.loop-drive-init
loop-drive-init c = (refl, omega arith, λ d low. absurd (omega arith), λ d high. all_one DRIVE_LIMIT d 0)

pub loop-drive-preserved : goal.loop-drive-preserved
loop-drive-preserved c =
    let l = c.loop-drive in let i : ℕ = l.drive in let sized = l.invariant.0 in let few = c.requires.few in let more = c.loop-drive-test.true in let count = c.len.ensures in (
      length-set l.words i c.word.result ∙ sized,
      omega arith,
      λ d low. grind (arith, get_or-set_at, get_or-set_other, (reads c.args.closed.now.words.items i c.word.result 0 c.word.ensures).1, l.invariant.2 d),
      λ d high. grind (arith, get_or-set_other, l.invariant.3 d),
    )
