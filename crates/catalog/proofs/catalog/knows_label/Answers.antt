use Rattle.std.proofs.Common.{refl}
use Rattle.catalog.proofs.Last.{knows_label_by, no_label_by}
use Rattle.catalog.proofs.catalog.knows_label.Goals as goal

pub returns-in-Some : goal.returns-in-Some
returns-in-Some c =
    knows_label_by c.args.after.now c.args.label.now c.id.result.now c.volume.result c.in-Some.volume.now c.is_of.result c.id.ensures c.volume.ensures.told
    c.in-Some.ensures.some.0 c.in-Some.ensures.some.1 c.is_of.ensures

pub returns-in-None : goal.returns-in-None
returns-in-None c = no_label_by c.args.after.now c.args.label.now c.id.result.now c.volume.result c.id.ensures c.volume.ensures.told (c.in-None.ensures.none refl)
