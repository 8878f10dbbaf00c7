-- The first trips of a plan.
use Rattle.std.proofs.Common.{◌≡◌, ℕ, suc, zero, ◌<◌, ◌≤◌, List, [], ◌∷◌, length, map, get_or, set, slice_get, Some, refl, ap, subst, arith}
use Rattle.flow_types.specs.declared.flight.Flight.{Flight}
use Rattle.flow_types.specs.declared.plan.Stop.{Stop}
use Rattle.flow_types.specs.Feasible.{AreTrips}
use Rattle.flow_types.specs.Trips.{IsTrip}
use Rattle.plan_rules.specs.Judge.{first_trips}

-- none of them yet
pub first_trips-zero : (flights : List Flight) (plan : List (List Stop))
    → length plan ≡ length flights → map (λ flight. []) flights ≡ first_trips zero plan
first_trips-zero [] [] same = refl
first_trips-zero [] (trip ∷ plan) same = absurd (omega arith)
first_trips-zero (flight ∷ flights) [] same = absurd (omega arith)
first_trips-zero (flight ∷ flights) (trip ∷ plan) same =
    ap (λ trips. [] ∷ trips) (first_trips-zero flights plan (omega arith))

-- the next one isn't there yet
pub first_trips-next : (plan : List (List Stop)) (n : ℕ) → n < length plan
    → slice_get (first_trips n plan) n ≡ Some []
first_trips-next [] n within = absurd (omega arith)
first_trips-next (trip ∷ plan) zero within = refl
first_trips-next (trip ∷ plan) (suc n) within = first_trips-next plan n (omega arith)

-- the next one comes
pub first_trips-more : (plan : List (List Stop)) (n : ℕ) (d : List Stop) → n < length plan
    → set (first_trips n plan) n (get_or plan n d) ≡ first_trips (suc n) plan
first_trips-more [] n d within = absurd (omega arith)
first_trips-more (trip ∷ plan) zero d within = refl
first_trips-more (trip ∷ plan) (suc n) d within =
    ap (λ trips. trip ∷ trips) (first_trips-more plan n d (omega arith))

-- all of them
pub first_trips-all : (plan : List (List Stop)) (n : ℕ) → length plan ≤ n
    → first_trips n plan ≡ plan
first_trips-all [] n past = refl
first_trips-all (trip ∷ plan) zero past = absurd (omega arith)
first_trips-all (trip ∷ plan) (suc n) past =
    ap (λ trips. trip ∷ trips) (first_trips-all plan n (omega arith))

-- each trip of a plan is one of its flight
pub AreTrips-at : (periods : ℕ) (flights : List Flight) (plan : List (List Stop)) (n : ℕ)
    (d : List Stop) (flight : Flight)
    → AreTrips periods flights plan → slice_get flights n ≡ Some flight → n < length plan
    → IsTrip periods flight (get_or plan n d)
AreTrips-at periods [] plan n d flight trips here within = cc
AreTrips-at periods (f ∷ flights) [] n d flight trips here within = absurd trips
AreTrips-at periods (f ∷ flights) (trip ∷ plan) zero d flight trips here within =
    let same : f ≡ flight = cc in subst (λ (g : Flight). IsTrip periods g trip) same trips.0
AreTrips-at periods (f ∷ flights) (trip ∷ plan) (suc n) d flight trips here within =
    AreTrips-at periods flights plan n d flight trips.1 here (omega arith)
