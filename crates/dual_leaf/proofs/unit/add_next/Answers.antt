use Rattle.std.proofs.Common.{◌≡◌, ℕ, Some, List, [], set, slice_get, ◌∙◌, subst, sym}
use Rattle.flow_types.specs.declared.parts.Parts.{Parts}
use Rattle.flow_types.specs.declared.plan.Stop.{Stop}
use Rattle.plan_rules.specs.Tally.{Tally}
use Rattle.plan_rules.specs.Loads.{AreLoads, IsTripAt}
use Rattle.flow_types.specs.Scenario.{parts_of}
use Rattle.time_windows.specs.Held.{box_of}
use Rattle.exact_sums.proofs.ItemFacts.{item_there}
use Rattle.greedy_plan.specs.Greedy.{with_rest}
use Rattle.dual_leaf.proofs.UnitSumFacts.{next_trip}
use Rattle.dual_leaf.proofs.unit.add_next.Goals as goal

abbrev AddsAt : Parts → List (List Stop) → ℕ → Tally → List Stop → Type 0
AddsAt parts trips number loads stops = slice_get trips number ≡ Some []
    → IsTripAt parts number stops → AreLoads parts (set trips number stops) loads

pub returns-then-is_some-clause-next : goal.returns-then-is_some-clause-next
returns-then-is_some-clause-next c = λ trips count are.
    let parts = parts_of c.args.s.now in
    let flight = item_there parts.flights c.args.flight c.requires.flight in
    next_trip parts (box_of c.args.boxes.now) trips c.args.flight c.args.loads.now c.add.new.self
    c.least_fit-cost.new.self.trip flight.0 flight.1 count c.least_fit-cost.result
    (sym c.is_some.ensures ∙ c.if-is_some.true)
    (c.least_fit-cost.ensures.least (with_rest parts.flights trips) are)
    (c.least_fit-cost.ensures.first (with_rest parts.flights trips) are)
    are
    (subst (AddsAt parts (with_rest parts.flights trips) c.args.flight c.add.new.self)
    c.trip.ensures (c.add.ensures.trips (with_rest parts.flights trips) are))
