use Rattle.std.proofs.Common.{refl}
use Rattle.catalog.proofs.Places.{found}
use Rattle.catalog.proofs.place.places_of.Goals as goal

pub returns : goal.returns
returns c = λ lines are.
    found lines c.args.places.now _ c.args.id.now c.key_of-key.result c.first_from.result c.first_above.result refl c.key_of-key.ensures
    c.first_from.ensures c.first_above.ensures are
