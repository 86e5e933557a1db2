use Rattle.std.proofs.Common.{◌≡◌, ◌+◌, rules}
use Rattle.whole_files.specs.WholeFile.{whole_file}
use Rattle.catalog.specs.declared.line.CatalogLine.TheVariants.{Begun}
use Rattle.dump_files.proofs.Lines.{begun_after, was_put}
use Rattle.dump_files.proofs.catalog_update.put_begun.Goals as goal

pub returns-in-Ok : goal.returns-in-Ok
returns-in-Ok g c =
    let more : c.in-Some.begun ≡ c.begun.result + 1 = search rules in (
      begun_after c.args.catalog.now c.args.line c.id.result.now c.begun.result c.in-Some.begun c.id.ensures c.begun.ensures more,
      was_put (whole_file g.F.WholeFile.gives g.F.WholeFile.takes) (Begun c.args.line) c.args.text.items c.args.file.now c.put_line.new.file c.in-Ok.field-0 c.in-Ok.ensures,
    )
