use Rattle.std.proofs.Common.{◌++◌, ap, ◌∙◌}
use Rattle.std.proofs.lemmas.Bool.Decides.{Decides-eqb}
use Rattle.std.proofs.lemmas.Slice.Eq.{strip_prefix_is}
use Rattle.catalog.specs.Line.{line_text}
use Rattle.catalog.proofs.LineText.{found_rest}
use Rattle.catalog.proofs.catalog.after_line.Goals as goal

pub returns : goal.returns
returns c =
    let text = c.as_slice.result.now in
    let same = c.as_slice.ensures.value ∙ c.in_ok-push_line.ensures ∙ ap (λ t. t ++ line_text c.args.line.now) c.clear.ensures.items in
    rw same at (found_rest text c.args.bytes.now c.strip_prefix.result
    (strip_prefix_is Decides-eqb c.args.bytes.now text c.strip_prefix.result c.strip_prefix.ensures.cases))
