use Rattle.std.proofs.Common.{decimal}
use Rattle.catalog.proofs.LineText.{lacks_number}
use Rattle.catalog.proofs.fields.cut_number.Goals as goal

pub returns : goal.returns
returns c = λ n more small is.
    (let cut = c.cut.ensures (decimal n) more (lacks_number c.args.end n c.requires small) is in
    (c.number.ensures n small cut.0, cut.1))
