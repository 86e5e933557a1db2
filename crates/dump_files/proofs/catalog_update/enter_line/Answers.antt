use Rattle.whole_files.specs.WholeFile.{whole_file}
use Rattle.dump_files.specs.Entering.{DecidesLine}
use Rattle.dump_files.proofs.Lines.{entered_with}
use Rattle.dump_files.proofs.catalog_update.enter_line.Goals as goal

pub returns-in-Added : goal.returns-in-Added
returns-in-Added g c =
    entered_with (whole_file g.F.WholeFile.gives g.F.WholeFile.takes) (DecidesLine c.args.begun c.args.line.now) c.args.line.now c.in_ok-text.text c.in_ok-text.catalog
    c.args.file.now c.read_catalog.new.file c.put_line.new.file c.put_line.result c.in_ok-text.ensures c.in-Added.ensures c.put_line.ensures
