use Rattle.catalog.specs.Places.{AreInOrder}
use Rattle.catalog.proofs.place.unsorted_places.Given as goal

abbrev pub invariant-loop-at : goal.invariant-loop-at
invariant-loop-at l = AreInOrder l.lines l.places.items l.at
