use Rattle.catalog.proofs.read_line.read_volume.Goals as goal

pub returns : goal.returns
returns c = λ v more good is. c.line.ensures v good (c.cut_fields.ensures v more good is)
