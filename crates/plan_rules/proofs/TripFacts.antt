-- Facts on the trips of a plan.
use Rattle.std.proofs.Common.{◌≡◌, ℕ, suc, ◌<◌, List, [], ◌∷◌, length, drop, get_or, refl, ap, subst, drop-cons}
use Rattle.flow_types.specs.declared.flight.Flight.{Flight}
use Rattle.flow_types.specs.declared.plan.Stop.{Stop}
use Rattle.flow_types.specs.Feasible.{AreTrips}
use Rattle.flow_types.specs.Trips.{IsOnward, IsStep}

-- there are as many as flights
pub AreTrips-length : (periods : ℕ) (flights : List Flight) (plan : List (List Stop))
    → AreTrips periods flights plan → length plan ≡ length flights
AreTrips-length periods [] [] trips = refl
AreTrips-length periods [] (trip ∷ plan) trips = absurd trips
AreTrips-length periods (flight ∷ flights) [] trips = absurd trips
AreTrips-length periods (flight ∷ flights) (trip ∷ plan) trips =
    ap suc (AreTrips-length periods flights plan trips.1)

-- the next stop of a trip that goes on
pub IsOnward-next : (periods : ℕ) (flight : Flight) (stop : Stop) (rest : List Stop) (i : ℕ)
    (d : Stop) → i < length rest
    → IsOnward periods flight stop (drop i rest) → IsStep flight.legs stop (get_or rest i d)
IsOnward-next periods flight stop rest i d within onward =
    (subst (IsOnward periods flight stop) (drop-cons rest i d within) onward).0
