use Rattle.std.proofs.Common.{◌≡◌, subst}
use Rattle.dump_run.specs.Label.{id_of}
use Rattle.catalog.specs.Places.{ArePlaces}
use Rattle.catalog.specs.Verdict.{IsVerdict}
use Rattle.catalog.proofs.Places.{same_lines}
use Rattle.catalog.proofs.catalog.Catalog.compare.Goals as goal

pub verdict-requires : goal.verdict-requires
verdict-requires c =
    let lines = c.self.inside.lines.items in
    let read : lines ≡ c.deref.result.now = cc in
    let sorted : c.self.inside.places.items ≡ c.deref-2.result.now = cc in
    same_lines lines c.deref.result.now 0 c.places_of.result.now c.id.result.now (id_of c.args.label.now) read c.id.ensures
    (c.places_of.ensures lines (subst (λ places. ArePlaces lines places) sorted c.self.invariant.1))

pub returns : goal.returns
returns c =
    let same : c.deref.result.now ≡ c.args.self.now = cc in
    subst (λ l. IsVerdict l c.args.label.now c.args.sum.now c.verdict.result) same c.verdict.ensures
