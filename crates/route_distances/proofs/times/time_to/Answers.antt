use Rattle.std.proofs.Common.{◌≡◌, ℕ, Option, None, Some, refl, ◌∙◌, ap, sym, slice_index, slice_index_or, take_all, arith}
use Rattle.std.specs.Option.{unwrap_or}
use Rattle.flow_types.specs.declared.flight.Leg.{Leg}
use Rattle.route_distances.specs.Walks.{least_into, least_with, or_zero}
use Rattle.route_distances.proofs.TimeFacts.{least_more, time_fits, time_is}
use Rattle.route_distances.proofs.times.time_to.Goals as goal

abbrev no_leg : Leg
no_leg = record { from = 0; to = 0; least = 0 }

pub least_with-least-requires : goal.least_with-least-requires
least_with-least-requires c =
    time_fits c.args.legs.now c.args.node c.args.times.now c.loop-leg.leg-index no_leg
    c.requires.times c.requires.legs (omega arith)

pub loop-leg-preserved : goal.loop-leg-preserved
loop-leg-preserved c =
    let far = slice_index c.args.times.now in
    c.least_with-least.ensures
    ∙ ap (λ least. least_with far c.args.node least (slice_index_or c.args.legs.now
    c.loop-leg.leg-index no_leg))
    c.loop-leg.invariant
    ∙ sym (least_more far c.args.node c.args.legs.now c.loop-leg.leg-index no_leg (omega arith))

pub returns : goal.returns
returns c =
    c.unwrap_or.ensures ∙ same c.loop-leg.least
    ∙ ap or_zero (c.loop-leg.invariant ∙ ap (least_into (slice_index c.args.times.now) c.args.node)
    (take_all c.loop-leg.leg-index c.args.legs.now (omega arith)))
    ∙ sym (time_is c.args.legs.now c.args.node c.args.times.now c.requires.times)
  where
    same : (o : Option ℕ) → unwrap_or o 0 ≡ or_zero o
    same None = refl
    same (Some time) = refl
