use Rattle.std.proofs.Common.{arith}
use Rattle.flow_types.specs.declared.place.Place.{Place}
use Rattle.plan_text.proofs.NameFacts.{fresh}
use Rattle.plan_text.proofs.names.names_of_places.Goals as goal

pub add-requires-clause-fresh : goal.add-requires-clause-fresh
add-requires-clause-fresh c =
    rw (c.items.ensures, c.loop-place.invariant)
    (fresh (λ (place : Place). place.name) c.args.places.now c.loop-place.place-index
    c.place-item.result c.requires.different (omega arith) c.place-item.is)
