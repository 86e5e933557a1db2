use Rattle.std.proofs.Common.{◌≡◌, ◌++◌, sym, ap, ◌∙◌}
use Rattle.catalog.specs.Line.{line_text}
use Rattle.catalog.proofs.catalog.first_line.Goals as goal

pub returns-in_default : goal.returns-in_default
returns-in_default c = λ l more good is. (let clash = sym c.in_default.is ∙ c.read_line.ensures l more good is in cc)

pub returns-in-None : goal.returns-in-None
returns-in-None c = λ l more good is.
    (let line = c.in-Some.line in let both = sym c.in-Some.is ∙ c.read_line.ensures l more good is in let one : line ≡ l = cc in
    let lacks = rw c.in-None.is at c.in_ok-rest.ensures in lacks more (is ∙ ap (λ k. line_text k ++ more) (sym one)))
