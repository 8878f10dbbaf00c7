-- The trips of a unit box, flight after flight, are those of the one plan that may be in it.
use Rattle.std.proofs.Common.{◌≡◌, ◌^◌, IfSome, ℕ, suc, ◌+◌, ◌<◌, ◌≤◌, true, List, [], ◌∷◌, ◌++◌, length, take, slice_get, MatchOption, Option, None, Some, set, ℤ, pos, ◌+ℤ◌, ◌≤ℤ◌, length-append, refl, sym, ap, ap₂, ◌∙◌, subst, arith}
use Rattle.std.proofs.lemmas.Int.{ints}
use Rattle.std.specs.Option.{is_some}
use Rattle.exact_sums.specs.Leasts.{IsLeast, IsLeastAt}
use Rattle.exact_sums.proofs.ItemFacts.{item_there}
use Rattle.flow_types.specs.declared.bound.Bound.TheVariants.{AtLeast, NoPlan}
use Rattle.flow_types.specs.declared.flight.CostTable.{CostTable}
use Rattle.flow_types.specs.declared.flight.Flight.{Flight}
use Rattle.flow_types.specs.declared.parts.Parts.{Parts}
use Rattle.flow_types.specs.declared.plan.Stop.{Stop}
use Rattle.flow_types.specs.Costs.{plan_cost, trip_cost_at}
use Rattle.flow_types.specs.Feasible.{IsFeasible}
use Rattle.flow_types.specs.Valid.{IsScenario}
use Rattle.plan_rules.specs.Tally.{Tally}
use Rattle.plan_rules.specs.Loads.{AreLoads, IsTripAt, no_trips}
use Rattle.plan_rules.proofs.TripFacts.{AreTrips-length}
use Rattle.time_windows.specs.Boxes.{Box, IsInBox}
use Rattle.time_windows.proofs.PlanFacts.{planned, planned_flight}
use Rattle.flight_routes.specs.Fits.{Fits, IsTripThatFits}
use Rattle.flight_routes.specs.Inside.{IsTripIn}
use Rattle.greedy_plan.specs.FirstBound.{IsLeastSum}
use Rattle.exact_sums.specs.Near.{IsNear}
use Rattle.exact_sums.specs.Sums.{plus}
use Rattle.greedy_plan.specs.Greedy.{AreChosen, IsChosen, with_rest}
use Rattle.greedy_plan.proofs.BoundFacts.{is_bound, sum_more, sum_none}
use Rattle.greedy_plan.proofs.FeasibleFacts.{chosen_more, chosen_none, greedy_feasible, loads_none, one_more}
use Rattle.dual_leaf.specs.Leaf.{IsCostIn, IsUnitBox}
use Rattle.time_windows.specs.Plans.{IsBoundIn}
use Rattle.flow_types.specs.Bounds.{IsNearBound, bound_of}
use Rattle.dual_leaf.specs.UnitSums.{IsNext, IsNextTrip, IsSoFar, IsSumOf}
use Rattle.dual_sums.proofs.SumsFacts.{abs_le}
use Rattle.dual_leaf.proofs.UnitBoxFacts.{one_trip}
use Rattle.dual_leaf.proofs.UnitFitFacts.{trip_fits}

-- lists that agree where both have items
pub same_first : {A : Type 0} (xs ys : List A) → length xs ≤ length ys
    → ((k : ℕ) (x y : A) → slice_get xs k ≡ Some x → slice_get ys k ≡ Some y → x ≡ y)
    → take (length xs) ys ≡ xs
same_first [] ys few each = refl
same_first (x ∷ xs) [] few each = absurd (omega (arith, few))
same_first (x ∷ xs) (y ∷ ys) few each =
    ap₂ (λ z zs. z ∷ zs) (sym (each 0 x y refl refl))
    (same_first xs ys (omega (arith, few)) (λ k. each (suc k)))

-- no trip costs nothing, and one trip more costs as much more
plan_cost_none : (tables : List CostTable) (flights : List Flight)
    → plan_cost tables flights [] ≡ pos 0
plan_cost_none tables [] = refl
plan_cost_none tables (flight ∷ flights) = refl

plan_cost_push : (tables : List CostTable) (flights : List Flight) (trips : List (List Stop))
    (trip : List Stop)
    → plan_cost tables flights (trips ++ trip ∷ [])
    ≡ plan_cost tables flights trips
    +ℤ trip_cost_at tables (slice_get flights (length trips)) trip
plan_cost_push tables [] trips trip = refl
plan_cost_push tables (flight ∷ flights) [] trip =
    omega (arith, ints, plan_cost_none tables flights)
plan_cost_push tables (flight ∷ flights) (t ∷ trips) trip =
    omega (arith, ints, plan_cost_push tables flights trips trip)

-- the trips of a plan in the box
pub trip_in : (parts : Parts) (box : Box) (plan : List (List Stop)) → IsFeasible parts plan
    → IsInBox box plan → (k : ℕ) (trip : List Stop) → slice_get plan k ≡ Some trip
    → IsTripIn parts box k trip
trip_in parts box plan feasible inside k trip at =
    let flight = planned_flight parts.day.periods parts.flights plan k trip feasible.trips at in
    record {
      flight = flight.0;
      there = flight.1;
      trip = flight.2;
      inside = inside k trip at;
    }

module _ (parts : Parts) (valid : IsScenario parts) (box : Box) (unit : IsUnitBox box) where
  -- the first trips of a plan in the box that keeps every rule
  plan_first : (trips plan : List (List Stop)) → AreChosen parts box trips
      → length trips ≤ length parts.flights → IsFeasible parts plan → IsInBox box plan
      → take (length trips) plan ≡ trips
  plan_first trips plan chosen few feasible inside =
      let long = AreTrips-length parts.day.periods parts.flights plan feasible.trips in
      same_first trips plan (omega (arith, few, long)) (λ k x y is at.
      one_trip parts box k x y valid unit (chosen k x is).inside.inside
      (trip_in parts box plan feasible inside k y at))

  -- where none fits beside them there is no such plan
  pub stuck : (trips : List (List Stop)) (number : ℕ) → length trips ≡ number
      → number < length parts.flights → AreChosen parts box trips
      → ((stops : List Stop)
      → IsTripThatFits parts box (with_rest parts.flights trips) number stops → ⊥)
      → IsCostIn parts box NoPlan
  stuck trips number count within chosen none plan kept =
      let feasible = kept.feasible in
      let inside = kept.inside in
      let flight = item_there parts.flights number within in
      let at = planned parts.day.periods parts.flights plan number flight.0 feasible.trips flight.1
      in
      let first : take number plan ≡ trips =
      subst (λ n. take n plan ≡ trips) count
      (plan_first trips plan chosen (omega (arith, count, within)) feasible inside) in
      let fits : Fits parts (with_rest parts.flights (take number plan)) number at.trip =
      λ f here. trip_fits parts valid plan feasible number f at.trip here at.is in
      none at.trip (record {
        inside = record {
          flight = flight.0;
          there = flight.1;
          trip = at.valid;
          inside = inside number at.trip at.is;
        };
        fits = subst (λ trips. Fits parts (with_rest parts.flights trips) number at.trip) first
            fits;
      })

  -- the only trip is the least
  only_least : (number : ℕ) (trip : List Stop) (cost : ℤ) → IsTripIn parts box number trip
      → trip_cost_at parts.tables (slice_get parts.flights number) trip ≡ cost
      → IsLeastAt (IsTripIn parts box number)
      (trip_cost_at parts.tables (slice_get parts.flights number)) cost
  only_least number trip cost is cost_is = record {
    reached = (trip, is, cost_is);
    below = λ other there. below other (one_trip parts box number trip other valid unit is there);
  }
    where
      below : (other : List Stop) → trip ≡ other
          → cost ≤ℤ trip_cost_at parts.tables (slice_get parts.flights number) other
      below other same =
          let as_much =
          ap (trip_cost_at parts.tables (slice_get parts.flights number)) same in
          omega (arith, ints, cost_is, as_much)

  more : (count : ℕ) (old new : Tally) (sum cost : ℤ)
      → (before : IsSumOf parts box count old sum)
      → IsNextTrip parts box before.trips count new cost
      → IsSumOf parts box (suc count) new (sum +ℤ cost)
  more count old new sum cost before next =
      let least = only_least count next.trip cost next.chosen.inside.inside next.cost_is in
      let grown = sum_more parts box count sum cost valid
      (record { is = before.least; near = before.near }) least in
      let pushed = plan_cost_push parts.tables parts.flights before.trips next.trip in
      let here : trip_cost_at parts.tables (slice_get parts.flights (length before.trips)) next.trip
      ≡ cost =
      ap (λ n. trip_cost_at parts.tables (slice_get parts.flights n) next.trip) before.count_is
      ∙ next.cost_is in
      record {
        trips = before.trips ++ next.trip ∷ [];
        count_is = length_more before.trips next.trip count before.count_is;
        chosen = chosen_more parts box before.trips next.trip before.chosen
            (subst (λ n. IsChosen parts box before.trips n next.trip) (sym before.count_is)
            next.chosen);
        loads_are = next.loads_are;
        sum_is = pushed ∙ ap₂ (λ a b. a +ℤ b) before.sum_is here;
        least = grown.is;
        near = grown.near;
      }
    where
      length_more : (trips : List (List Stop)) (trip : List Stop) (n : ℕ) → length trips ≡ n
          → length (trips ++ trip ∷ []) ≡ suc n
      length_more trips trip n is = omega (arith, length-append trips (trip ∷ []), is)

  -- the next flight, whatever is found of it
  pub so_far_more : (count : ℕ) (old new : Tally) (sum cost : Option ℤ)
      → count < length parts.flights → IsSoFar parts box count old sum
      → ((trips : List (List Stop)) → length trips ≡ count
      → AreLoads parts (with_rest parts.flights trips) old
      → IsNext parts box trips count new cost)
      → IsSoFar parts box (count + 1) new (plus sum cost)
  so_far_more count old new None cost within before next = before
  so_far_more count old new (Some sum) None within before next =
      stuck before.trips count before.count_is within before.chosen
      (next before.trips before.count_is before.loads_are)
  so_far_more count old new (Some sum) (Some cost) within before next =
      subst (λ n. IsSumOf parts box n new (sum +ℤ cost)) (next_is count)
      (more count old new sum cost before (next before.trips before.count_is before.loads_are))
    where
      next_is : (n : ℕ) → suc n ≡ n + 1
      next_is n = omega arith

  pub so_far_none : (loads : Tally) → AreLoads parts (no_trips parts) loads
      → IsSoFar parts box 0 loads (Some (pos 0))
  so_far_none loads are =
      let none = sum_none parts box in
      record {
        trips = [];
        count_is = refl;
        chosen = chosen_none parts box [] refl;
        loads_are = loads_none parts [] loads refl are;
        sum_is = plan_cost_none parts.tables parts.flights;
        least = none.is;
        near = none.near;
      }

  -- how far from zero a trip costs
  pub next_near : (count : ℕ) (old new : Tally) (sum cost : Option ℤ)
      → count < length parts.flights → is_some sum ≡ true → IsSoFar parts box count old sum
      → ((trips : List (List Stop)) → length trips ≡ count
      → AreLoads parts (with_rest parts.flights trips) old
      → IsNext parts box trips count new cost)
      → IfSome cost (IsNear (2 ^ 120))
  next_near count old new None cost within some before next = absurd (let e : ⊥ = cc in e)
  next_near count old new (Some sum) None within some before next = tt
  next_near count old new (Some sum) (Some cost) within some before next =
      let few : count ≤ 2000 = omega (arith, within, valid.flights.few) in
      let now = more count old new sum cost before
      (next before.trips before.count_is before.loads_are) in
      record {
        low = omega (arith, ints, few, now.near.low, before.near.high);
        high = omega (arith, ints, few, now.near.high, before.near.low);
      }

  -- all flights
  pub whole_cost : (count : ℕ) (loads : Tally) (sum : Option ℤ) → count ≡ length parts.flights
      → IsSoFar parts box count loads sum → IsCostIn parts box (bound_of sum)
  whole_cost count loads None all is = is
  whole_cost count loads (Some sum) all is = (
    is.trips,
    record {
      feasible = greedy_feasible parts box is.trips
          (record { chosen = is.chosen; whole = is.count_is ∙ all });
      inside = λ f trip at. (is.chosen f trip at).inside.inside.inside;
    },
    is.sum_is,
  )

  pub whole_sound : (count : ℕ) (loads : Tally) (sum : Option ℤ) → count ≡ length parts.flights
      → IsSoFar parts box count loads sum → IsBoundIn parts box (bound_of sum)
  whole_sound count loads None all is = is
  whole_sound count loads (Some sum) all is = λ plan kept.
      is_bound parts box (AtLeast sum)
      (subst (λ n. IsLeastSum parts box n sum) all is.least) plan
      (record { trips = kept.feasible.trips; inside = kept.inside })

  pub whole_near : (count : ℕ) (loads : Tally) (sum : Option ℤ) → count ≡ length parts.flights
      → IsSoFar parts box count loads sum → IsNearBound (bound_of sum)
  whole_near count loads None all is = tt
  whole_near count loads (Some sum) all is =
      let few = valid.flights.few in
      let low = is.near.low in
      let high = is.near.high in
      let small = abs_le sum (2 ^ 114) (omega (arith, ints, high, few, all))
      (omega (arith, ints, low, few, all)) in
      omega (arith, small)

-- the trip that was found, as the code says it
pub next_trip : (parts : Parts) (box : Box) (trips : List (List Stop)) (number : ℕ)
    (before after : Tally) (trip : List Stop) (flight : Flight)
    → slice_get parts.flights number ≡ Some flight → length trips ≡ number
    → (cost : Option ℤ) → is_some cost ≡ true
    → IsLeast (IsTripThatFits parts box (with_rest parts.flights trips) number)
    (trip_cost_at parts.tables (slice_get parts.flights number)) cost
    → MatchOption cost (trip ≡ []) (λ least. IsChosen parts box trips number trip)
    → AreLoads parts (with_rest parts.flights trips) before
    → (slice_get (with_rest parts.flights trips) number ≡ Some []
    → IsTripAt parts number trip
    → AreLoads parts (set (with_rest parts.flights trips) number trip) after)
    → IsNext parts box trips number after cost
next_trip parts box trips number before after trip flight here count None some least chosen are
    added = absurd (let e : ⊥ = cc in e)
next_trip parts box trips number before after trip flight here count (Some cost) some least chosen
    are added =
    let more = one_more parts box trips (trips ++ trip ∷ []) before after number trip flight here
    count refl chosen are added in
    let above = chosen.least least.reached.0 least.reached.1 in
    record {
      trip = trip;
      chosen = chosen;
      loads_are = more.loads_are;
      cost_is = omega (arith, ints, above, least.below trip chosen.inside, least.reached.2);
    }
