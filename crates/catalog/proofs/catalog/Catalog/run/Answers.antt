use Rattle.std.proofs.Common.{◌≡◌, ◌+◌, ◌-◌, take, drop, get_or, length, rules, refl, sym, ap, subst}
use Rattle.catalog.specs.Places.{ArePlaces}
use Rattle.catalog.specs.Run.{Begins}
use Rattle.catalog.specs.declared.line.CatalogLine.TheVariants.{Begun}
use Rattle.catalog.proofs.Places.{has_after, same_lines}
use Rattle.catalog.proofs.catalog.Catalog.run.Goals as goal

pub last_begun-requires : goal.last_begun-requires
last_begun-requires c =
    let lines = c.self.inside.lines.items in
    let read : lines ≡ c.deref-2.result.now = cc in
    let sorted : c.self.inside.places.items ≡ c.deref.result.now = cc in
    same_lines lines c.deref-2.result.now 0 c.places_of-places.result.now c.args.id.now c.args.id.now read refl
    (c.places_of-places.ensures lines (subst (λ places. ArePlaces lines places) sorted c.self.invariant.1))

pub invariant_of-result : goal.invariant_of-result
invariant_of-result c = record {
  there =
      let lines = c.self.inside.lines.items in
      let at = c.in_ok-at.at in
      let read : lines ≡ c.deref-in-Begun.result.now = cc in
      let looked : c.deref-2.result.now ≡ lines = cc in
      let sorted : c.self.inside.places.items ≡ c.deref.result.now = cc in
      let line = Begun c.in-Begun.begun in
      let there : get_or lines at line ≡ line = search rules in
      let begun : c.in-Begun.begun.id ≡ c.args.id.now = subst (Begins c.args.id.now) there (subst (λ ls. Begins c.args.id.now (get_or ls at line)) looked (c.in_ok-at.ensures.is line)) in
      let all = c.places_of-places.ensures lines (subst (λ places. ArePlaces lines places) sorted c.self.invariant.1) in
      same_lines (take (length lines - (at + 1)) (drop (at + 1) lines)) (take (length c.deref-in-Begun.result.now - (at + 1)) (drop (at + 1) c.deref-in-Begun.result.now))
      (at + 1) c.places_of-places.result.now c.args.id.now c.in-Begun.begun.id (ap (λ ls. take (length ls - (at + 1)) (drop (at + 1) ls)) read) (sym begun)
      (has_after lines c.places_of-places.result.now c.args.id.now (at + 1) all);
}
