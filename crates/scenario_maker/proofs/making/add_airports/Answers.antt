use Rattle.std.proofs.Common.{◌++◌, ◌∙◌, ◌∷◌, [], ap}
use Rattle.exact_sums.proofs.RangeFacts.{below_more}
use Rattle.flow_types.specs.declared.place.Place.{Place}
use Rattle.scenario_maker.specs.Made.{made_airport}
use Rattle.scenario_maker.proofs.making.add_airports.Goals as goal

pub loop-k-preserved : goal.loop-k-preserved
loop-k-preserved c =
    below_more (λ k. made_airport c.args.room k ∷ []) c.loop-k.k c.args.places.now c.loop-k.places
    c.add.new.self c.loop-k.invariant
    (c.in_ok-add.ensures.ok
    ∙ ap (λ (place : Place). c.loop-k.places ++ place ∷ []) c.in_ok-made_airport.ensures)
