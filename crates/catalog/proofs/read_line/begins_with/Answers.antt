use Rattle.std.proofs.Common.{Some, None, refl, sym}
use Rattle.std.proofs.lemmas.Bool.{true≢false}
use Rattle.std.proofs.lemmas.Bool.Decides.{Decides-eqb}
use Rattle.std.proofs.lemmas.Slice.Eq.{strip_prefix_is}
use Rattle.catalog.proofs.read_line.begins_with.Goals as goal

pub returns-in-Some : goal.returns-in-Some
returns-in-Some c =
    (λ yes. (c.in-Some.field-0.now, strip_prefix_is Decides-eqb c.args.bytes.now c.args.word.now (Some c.in-Some.field-0) c.in-Some.ensures.cases), λ k. refl)

pub returns-in-None : goal.returns-in-None
returns-in-None c = (
  λ yes. absurd (true≢false (sym yes)),
  λ k. absurd (strip_prefix_is Decides-eqb c.args.bytes.now c.args.word.now None c.in-None.ensures.cases k.0 k.1),
)
