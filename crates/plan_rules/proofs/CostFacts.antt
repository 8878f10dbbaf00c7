-- What a plan costs, trip by trip.
use Rattle.std.proofs.Common.{◌≡◌, ℕ, suc, zero, ◌-◌, ◌<◌, ◌≤◌, List, [], ◌∷◌, Option, Some, None, length, drop, get_or, slice_get, pos, ◌+ℤ◌, ◌-ℤ◌, refl, arith}
use Rattle.std.proofs.lemmas.List.{drop_all}
use Rattle.flow_types.specs.declared.flight.CostTable.{CostTable}
use Rattle.flow_types.specs.declared.flight.Flight.{Flight}
use Rattle.flow_types.specs.declared.plan.Stop.{Stop}
use Rattle.flow_types.specs.Costs.{credit_at, plan_cost, total_at, trip_cost_at}
use Rattle.flow_types.specs.Trips.{arrival_from, arrival_of, departure_of}

-- the cost of a trip by its ends
pub trip_cost_is : (tables : List CostTable) (flight : Option Flight) (f : Flight)
    (stops : List Stop) (departs arrives : ℕ) → flight ≡ Some f
    → Some departs ≡ departure_of stops → Some arrives ≡ arrival_of stops
    → trip_cost_at tables flight stops
    ≡ total_at tables flight (arrives - f.sa) -ℤ credit_at tables flight (departs - f.sd)
trip_cost_is tables None f stops departs arrives here departs_is arrives_is = cc
trip_cost_is tables (Some flight) f [] departs arrives here departs_is arrives_is = cc
trip_cost_is tables (Some flight) f (stop ∷ rest) departs arrives here departs_is arrives_is =
    let same : flight ≡ f = cc in
    let first : departs ≡ stop.time = cc in
    let last : arrives ≡ arrival_from stop rest = cc in
    rw (first, last, ← same)

-- no trip costs nothing
pub trip_cost_none : (tables : List CostTable) (flight : Option Flight) (stops : List Stop)
    → None ≡ departure_of stops → trip_cost_at tables flight stops ≡ pos 0
trip_cost_none tables None stops none = refl
trip_cost_none tables (Some flight) [] none = refl
trip_cost_none tables (Some flight) (stop ∷ rest) none = cc

-- a trip arrives if it departs
pub trip_arrives : (tables : List CostTable) (flight : Option Flight) (stops : List Stop)
    → None ≡ arrival_of stops → trip_cost_at tables flight stops ≡ pos 0
trip_arrives tables None stops none = refl
trip_arrives tables (Some flight) [] none = refl
trip_arrives tables (Some flight) (stop ∷ rest) none = cc

-- the cost of the next trip, and that of what is left
pub plan_cost-next : (tables : List CostTable) (flights : List Flight) (plan : List (List Stop))
    (n : ℕ) (d : List Stop) → n < length flights → n < length plan
    → plan_cost tables (drop n flights) (drop n plan)
    ≡ trip_cost_at tables (slice_get flights n) (get_or plan n d)
    +ℤ plan_cost tables (drop (suc n) flights) (drop (suc n) plan)
plan_cost-next tables [] plan n d f_in t_in = absurd (omega arith)
plan_cost-next tables (f ∷ flights) [] n d f_in t_in = absurd (omega arith)
plan_cost-next tables (f ∷ flights) (trip ∷ plan) zero d f_in t_in = refl
plan_cost-next tables (f ∷ flights) (trip ∷ plan) (suc n) d f_in t_in =
    plan_cost-next tables flights plan n d (omega arith) (omega arith)

-- nothing is left
pub plan_cost-end : (tables : List CostTable) (flights : List Flight) (plan : List (List Stop))
    (n : ℕ) → length plan ≡ length flights → length plan ≤ n
    → plan_cost tables (drop n flights) (drop n plan) ≡ pos 0
plan_cost-end tables flights plan n same past = rw (drop_all n flights (omega arith))
