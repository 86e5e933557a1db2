use Rattle.std.proofs.Common.{◌≡◌, ◌++◌, ◌∷◌, [], rules, subst}
use Rattle.catalog.specs.Places.{ArePlaces}
use Rattle.catalog.proofs.OneCatalog.{one_more}
use Rattle.catalog.proofs.catalog.Catalog.read.Goals as goal

pub loop-rest-preserved : goal.loop-rest-preserved
loop-rest-preserved c =
    let lines = c.loop-rest.lines.items in let found = rw c.in-Some.is at c.in_ok-line.ensures in
    let pushed : c.push.new.self.items ≡ lines ++ c.in-Some.line ∷ [] = search rules in
    rw pushed (one_more lines c.in-Some.line c.args.bytes.now c.loop-rest.rest.now c.in-Some.more.now c.loop-rest.invariant.0 c.loop-rest.invariant.1
    found.0 found.1)

pub invariant_of-result : goal.invariant_of-result
invariant_of-result c =
    let read : c.deref.result.now ≡ c.loop-rest.lines.items = cc in
    (c.loop-rest.invariant.0, subst (λ lines. ArePlaces lines c.in_ok-places.places.items) read c.in_ok-places.ensures)
