use Rattle.std.proofs.Common.{◌≡◌, ◌∙◌, ◌+◌, List, set, slice_get, Some, subst, sym, ap, add-one, arith}
use Rattle.flow_types.specs.declared.flight.Flight.{Flight}
use Rattle.flow_types.specs.declared.plan.Stop.{Stop}
use Rattle.flow_types.specs.Scenario.{parts_of}
use Rattle.flow_types.specs.Trips.{IsTrip}
use Rattle.plan_rules.specs.Judge.{first_trips}
use Rattle.plan_rules.specs.Loads.{AreLoads}
use Rattle.plan_rules.proofs.JudgeFacts.{AreTrips-at, first_trips-zero, first_trips-next, first_trips-more, first_trips-all}
use Rattle.plan_rules.proofs.TripFacts.{AreTrips-length}
use Rattle.plan_rules.proofs.judging.add_all.Goals as goal

pub loop-at-init : goal.loop-at-init
loop-at-init c =
    let parts = parts_of c.args.s.now in
    subst (λ (trips : List (List Stop)). AreLoads parts trips c.args.loads.now)
    (first_trips-zero parts.flights c.args.plan.now
    (AreTrips-length parts.day.periods parts.flights c.args.plan.now c.requires.trips))
    c.requires.none

pub overflow_cast-at : goal.overflow_cast-at
overflow_cast-at c =
    let parts = parts_of c.args.s.now in
    let same = AreTrips-length parts.day.periods parts.flights c.args.plan.now c.requires.trips in
    omega (arith, c.args.s.now.valid.flights.few)

pub add-requires-clause-flight : goal.add-requires-clause-flight
add-requires-clause-flight c =
    let parts = parts_of c.args.s.now in
    let same = AreTrips-length parts.day.periods parts.flights c.args.plan.now c.requires.trips in
    omega arith

pub loop-at-preserved : goal.loop-at-preserved
loop-at-preserved c =
    let parts = parts_of c.args.s.now in
    let plan = c.args.plan.now in
    let at = c.loop-at.at in
    let trip = c.index-plan-at.result in
    let same = AreTrips-length parts.day.periods parts.flights plan c.requires.trips in
    let more : set (first_trips at plan) at c.items.result.now ≡ first_trips (at + 1) plan =
    ap (set (first_trips at plan) at) (c.items.ensures ∙ c.index-plan-at.is)
    ∙ first_trips-more plan at trip (omega arith)
    ∙ ap (λ n. first_trips n plan) (sym (add-one at)) in
    let its = λ (flight : Flight) (here : slice_get parts.flights at ≡ Some flight).
    subst (IsTrip parts.day.periods flight) (sym (c.items.ensures ∙ c.index-plan-at.is))
    (AreTrips-at parts.day.periods parts.flights plan at trip flight c.requires.trips here
    (omega arith)) in
    subst (λ (trips : List (List Stop)). AreLoads parts trips c.add.new.self) more
    (c.add.ensures.trips (first_trips at plan) c.loop-at.invariant
    (first_trips-next plan at (omega arith)) its)

pub returns : goal.returns
returns c =
    subst (λ (trips : List (List Stop)). AreLoads (parts_of c.args.s.now) trips c.loop-at.loads)
    (first_trips-all c.args.plan.now c.loop-at.at (omega arith)) c.loop-at.invariant
