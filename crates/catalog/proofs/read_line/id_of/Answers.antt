use Rattle.std.proofs.Common.{IsUtf8, sym, subst}
use Rattle.dumpdates.proofs.Shapes.{name_is_text}
use Rattle.catalog.proofs.read_line.id_of.Goals as goal

pub returns-in_default : goal.returns-in_default
returns-in_default c = λ d good name level date since.
    absurd (c.in_default.ensures.cases.0 (subst IsUtf8 (sym name) (name_is_text d.name good.name)))
