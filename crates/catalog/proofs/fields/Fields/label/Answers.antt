use Rattle.std.proofs.Common.{IsUtf8, sym, subst}
use Rattle.dumpdates.proofs.Shapes.{name_is_text}
use Rattle.catalog.proofs.fields.Fields.label.Goals as goal

pub returns-in_default : goal.returns-in_default
returns-in_default c = λ l good f.
    absurd (c.in_default.ensures.cases.0 (subst IsUtf8 (sym f.name) (name_is_text l.label.name good.label.name)))
