-- What the definitions say of the worked days, computed.
use Rattle.std.specs.Prelude.{codes}
use Rattle.std.proofs.Common.{◌≡◌, ℕ, suc, zero, ◌+◌, ◌<◌, ◌≤◌, List, [], Some, All, ◌∷◌, get_or, pos, ap, refl, arith}
use Rattle.std.proofs.lemmas.List.Elements.{All-nil}
use Rattle.flow_types.specs.declared.flight.Cost.TheVariants.{Tables}
use Rattle.flow_types.specs.declared.flight.CostTable.{CostTable}
use Rattle.flow_types.specs.declared.flight.Leg.{Leg}
use Rattle.flow_types.specs.Costs.{plan_cost}
use Rattle.flow_types.specs.Counts.{occupancy_at}
use Rattle.flow_types.specs.Feasible.{IsFeasible, KeepsTurn}
use Rattle.flow_types.specs.Trips.{IsLegBetween}
use Rattle.flow_types.specs.Valid.{IsFlight}
use Rattle.worked_days.specs.Days.{beside, flight_with, legs_with, places_with, plan_with, there, there_and_back, trip_at, two_flights}
use Rattle.worked_days.proofs.WorkedDay.{back_is, beside_is, feasible_is, there_is}

-- The second flight departs a period late: the plan keeps every rule.
keeps : IsFeasible (two_flights 1 9 9) (plan_with (trip_at 1 3))
keeps =
    feasible_is (two_flights 1 9 9) (plan_with (trip_at 1 3))
    (there_is, (beside_is 1 3 (omega arith) (omega arith) (omega arith), tt))
    (All-nil (KeepsTurn (plan_with (trip_at 1 3)))) refl refl refl

-- The flight that departs in the first period is in the sector for two, and counts there no longer.
in_the_sector : occupancy_at (there ∷ []) (trip_at 0 2 ∷ []) 2 0
    + occupancy_at (there ∷ []) (trip_at 0 2 ∷ []) 2 1 ≡ 2
in_the_sector = refl

out_of_the_sector : occupancy_at (there ∷ []) (trip_at 0 2 ∷ []) 2 2 ≡ 0
out_of_the_sector = refl

-- It costs one period on the ground; each further period in the air costs two, and one in the table
-- what it says.
costs_one : plan_cost [] (there ∷ beside ∷ []) (plan_with (trip_at 1 3)) ≡ pos 1
costs_one = refl

costs_six : plan_cost [] (there ∷ beside ∷ []) (plan_with (trip_at 2 6)) ≡ pos 6
costs_six = refl

abbrev tables : List CostTable
tables = record { name = 84 ∷ []; values = pos 0 ∷ pos 5 ∷ pos 10 ∷ [] } ∷ record {
  name = 67 ∷ [];
  values = pos 0 ∷ pos 2 ∷ pos 4 ∷ [];
} ∷ []

costs_by_tables : plan_cost tables (there ∷ flight_with (codes "F2") 0 1 0 (Tables 0 1) ∷ [])
    (plan_with (trip_at 1 3)) ≡ pos 3
costs_by_tables = refl

-- Both depart in the period in which one may.
breaks_departures : IsFeasible (two_flights 1 9 9) (plan_with (trip_at 0 2)) → ⊥
breaks_departures feasible = let both : 2 ≤ 1 = feasible.departures 0 0 refl (omega arith) in
    omega arith

-- Both arrive in a period in which one may.
breaks_arrivals : IsFeasible (two_flights 9 1 9) (plan_with (trip_at 0 2)) → ⊥
breaks_arrivals feasible = let both : 2 ≤ 1 = feasible.arrivals 1 2 refl (omega arith) in
    omega arith

-- Both are in the sector in which one may be, in the period before they arrive.
breaks_sectors : IsFeasible (two_flights 9 9 1) (plan_with (trip_at 0 2)) → ⊥
breaks_sectors feasible = let both : 2 ≤ 1 = feasible.sectors 2 1 refl (omega arith) in omega arith

-- The flight back leaves one period after the aircraft has come, which is its turnaround.
same_number : {m n : ℕ} → Some m ≡ Some n → m ≡ n
same_number is = cc

on_turn : All (KeepsTurn (plan_with (trip_at 3 5))) (there_and_back 9 1).connections
on_turn zero d less arrives leaves first second =
    omega (arith, same_number first, same_number second)
on_turn (suc k) d less arrives leaves first second = absurd (omega (arith, less))

keeps_a_turnaround : IsFeasible (there_and_back 9 1) (plan_with (trip_at 3 5))
keeps_a_turnaround =
    feasible_is (there_and_back 9 1) (plan_with (trip_at 3 5))
    (there_is, (back_is, tt)) on_turn refl refl refl

-- Where the turnaround is two it leaves too early.
breaks_a_turnaround : IsFeasible (there_and_back 9 2) (plan_with (trip_at 3 5)) → ⊥
breaks_a_turnaround feasible =
    let turn : 2 + 2 ≤ 3 =
    feasible.turns 0 (record {
      first = 0;
      second = 1;
      turnaround = 2;
    }) (omega arith) 2 3 refl refl in omega arith

-- The second flight departs later than its greatest ground delay.
breaks_a_window : IsFeasible (two_flights 1 9 9) (plan_with (trip_at 5 7)) → ⊥
breaks_a_window feasible = let late : 5 ≤ 4 = feasible.trips.1.0.1.late in omega arith

-- It takes one period where its leg takes two.
no_leg : (k : ℕ) (leg : Leg) → k < 2 → get_or (legs_with 2) k leg ≡ leg
    → IsLegBetween (record { node = 1; time = 1 }) (record { node = 2; time = 2 }) leg → ⊥
no_leg zero leg less same between = let to : 1 ≡ leg.to = ap (λ (l : Leg). l.to) same in
    omega (arith, between.to)
no_leg (suc zero) leg less same between = let least : 2 ≡ leg.least =
    ap (λ (l : Leg). l.least) same in omega (arith, between.least)
no_leg (suc (suc k)) leg less same between = omega (arith, less)

breaks_a_leg : IsFeasible (two_flights 1 9 9) (plan_with (trip_at 1 2)) → ⊥
breaks_a_leg feasible = let step = feasible.trips.1.0.2.2.0 in
    no_leg step.0 step.1 step.2 step.3 step.4

-- It starts in the sector.
breaks_a_start : IsFeasible (two_flights 1 9 9)
    (plan_with (record { node = 1; time = 1 } ∷ record { node = 2; time = 3 } ∷ [])) → ⊥
breaks_a_start feasible = omega (arith, feasible.trips.1.0.0)

-- It goes nowhere.
breaks_with_no_stop : IsFeasible (two_flights 1 9 9) (plan_with []) → ⊥
breaks_with_no_stop feasible = feasible.trips.1.0

-- It ends in the sector.
breaks_an_ending : IsFeasible (two_flights 1 9 9)
    (plan_with (record { node = 0; time = 1 } ∷ record { node = 1; time = 1 } ∷ [])) → ⊥
breaks_an_ending feasible = let last : 1 + 1 ≡ 3 = feasible.trips.1.0.2.2 in omega arith

-- The second flight has no trip.
breaks_the_number : IsFeasible (two_flights 1 9 9) (trip_at 0 2 ∷ []) → ⊥
breaks_the_number feasible = feasible.trips.1

-- In a day of two periods the flight's scheduled arrival lies past the end.
past_the_day : IsFlight 2 (places_with 9 9 9) [] there → ⊥
past_the_day is = omega (arith, is.within)
