use Rattle.std.proofs.Common.{None, Some, ◌++◌, ◌∷◌, sym, ◌∙◌}
use Rattle.std.proofs.lemmas.Bool.Decides.{Decides-eqb}
use Rattle.std.proofs.lemmas.Slice.Eq.{strip_prefix_is}
use Rattle.dump_run.proofs.FieldCut.{no_cut, one_cut, same_rest}
use Rattle.catalog.proofs.fields.cut.Goals as goal

pub returns-in_default : goal.returns-in_default
returns-in_default c = λ text more lacks is.
    absurd (strip_prefix_is Decides-eqb c.args.bytes.now c.args.word.now None c.in_default.ensures.cases (text ++ c.args.end ∷ more) is)

pub returns-in_default-split_at_byte : goal.returns-in_default-split_at_byte
returns-in_default-split_at_byte c = λ text more lacks is.
    (let after = c.in-Some.after in let none = rw c.in_default-split_at_byte.is at c.split_at_byte.ensures in
    let found = strip_prefix_is Decides-eqb c.args.bytes.now c.args.word.now (Some after) c.in-Some.ensures.cases in
    absurd (no_cut c.args.end after.now text more none (same_rest c.args.word.now after.now (text ++ c.args.end ∷ more) (sym found ∙ is))))

pub returns : goal.returns
returns c = λ text more lacks is.
    (let after = c.in-Some.after in let some = rw c.in-Some-split_at_byte.is at c.split_at_byte.ensures in
    let found = strip_prefix_is Decides-eqb c.args.bytes.now c.args.word.now (Some after) c.in-Some.ensures.cases in
    one_cut c.args.end _ text _ more some.0 lacks (sym some.1 ∙ same_rest c.args.word.now after.now (text ++ c.args.end ∷ more) (sym found ∙ is)))
