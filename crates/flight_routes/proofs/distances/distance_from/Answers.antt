use Rattle.std.proofs.Common.{slice_index_or, arith}
use Rattle.std.proofs.lemmas.List.Elements.{Contains-get_or}
use Rattle.flow_types.specs.declared.flight.Leg.{Leg}
use Rattle.flight_routes.proofs.distances.distance_from.Goals as goal

pub bounds-distances-from : goal.bounds-distances-from
bounds-distances-from c =
    let none : Leg = record { from = 0; to = 0; least = 0 } in
    let leg = slice_index_or c.args.legs.now c.loop-at.at none in
    let is = c.requires.legs leg
    (Contains-get_or c.args.legs.now c.loop-at.at none c.loop-at-test.true) in
    omega (arith, is.0, c.from.ensures, c.requires.distances)

pub overflow_add-leg : goal.overflow_add-leg
overflow_add-leg c =
    let none : Leg = record { from = 0; to = 0; least = 0 } in
    let leg = slice_index_or c.args.legs.now c.loop-at.at none in
    let is = c.requires.legs leg
    (Contains-get_or c.args.legs.now c.loop-at.at none c.loop-at-test.true) in
    omega (arith, is.1, c.requires.few c.from.result)
