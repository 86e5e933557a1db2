use Rattle.dump_run.proofs.Words.{None, Some, ◌++◌, ◌∷◌, ◌∙◌, append_assoc}
use Rattle.std.proofs.lemmas.Bool.Decides.{Decides-eqb}
use Rattle.std.proofs.lemmas.Slice.Eq.{strip_prefix_is}
use Rattle.dump_run.proofs.FieldCut.{found_text}
use Rattle.dump_run.proofs.checkpoint.field.text_field.Goals as goal

pub returns-in_err-after : goal.returns-in_err-after
returns-in_err-after c = rw c.from_residual.ensures (λ text more lacks is.
    strip_prefix_is Decides-eqb c.args.bytes.now c.args.word.now None c.in_err-after.ensures.cases (text ++ 10 ∷ more) (is ∙ append_assoc c.args.word.now text (10 ∷ more)))

pub returns : goal.returns
returns c =
    let after = c.in_ok-after.after in
    found_text c.args.word.now c.args.bytes.now after.now c.cut.result
    (strip_prefix_is Decides-eqb c.args.bytes.now c.args.word.now (Some after) c.in_ok-after.ensures.cases) c.cut.ensures
