use Rattle.std.proofs.Common.{refl, ap, ◌∙◌}
use Rattle.dump_files.proofs.Lines.{none_stands, stands_by}
use Rattle.dump_files.proofs.catalog_update.has_volume.Goals as goal

pub returns-in-Some : goal.returns-in-Some
returns-in-Some c = stands_by c.args.lately.now.after.now c.args.lately.now.begun.now.id c.volume.result c.in-Some.held.now c.args.volume.now c.is_same.result
    (c.volume.ensures.told ∙ ap (λ l. l.volume) c.label.ensures) c.in-Some.ensures.some.0 c.in-Some.ensures.some.1 c.is_same.ensures

pub returns-in-None : goal.returns-in-None
returns-in-None c = none_stands c.args.lately.now.after.now c.args.lately.now.begun.now.id c.volume.result c.args.volume.now
    (c.volume.ensures.told ∙ ap (λ l. l.volume) c.label.ensures) (c.in-None.ensures.none refl)
