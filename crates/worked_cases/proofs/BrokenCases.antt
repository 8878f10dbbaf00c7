-- What plans of the worked days break first, computed.
use Rattle.std.proofs.Common.{◌≡◌, [], ◌∷◌, Some, None, refl}
use Rattle.flow_types.specs.declared.place.CapKind.TheVariants as kind
use Rattle.plan_rules.specs.FirstBroken.{first_broken, over}
use Rattle.plan_rules.specs.declared.broken.Broken.TheVariants as broken
use Rattle.worked_days.specs.Days.{plan_with, stop_at, there_and_back, trip_at, two_flights}

-- The second flight departs a period late: no rule is broken.
keeps : first_broken (two_flights 1 9 9) (plan_with (trip_at 1 3)) ≡ None
keeps = refl

-- One trip for two flights, and three.
trips : first_broken (two_flights 1 9 9) (trip_at 7 7 ∷ []) ≡ Some (broken.Trips 1 2)
trips = refl

-- No stop, and a first stop that isn't at node 0: the first flight's is named, whatever the second
-- does.
start : first_broken (two_flights 1 9 9) (plan_with []) ≡ Some (broken.Start 1)
start = refl

start_elsewhere : first_broken (two_flights 1 9 9) ((stop_at 1 0 ∷ []) ∷ [] ∷ [])
    ≡ Some (broken.Start 0)
start_elsewhere = refl

-- It departs after its window; it arrives after its window, and that is its third stop.
late_departure : first_broken (two_flights 1 9 9) (plan_with (trip_at 5 7))
    ≡ Some (broken.Window 1 0)
late_departure = refl

early_arrival : first_broken (two_flights 1 9 9)
    ((stop_at 0 0 ∷ stop_at 1 0 ∷ stop_at 2 1 ∷ []) ∷ trip_at 5 7 ∷ []) ≡ Some (broken.Least 0 1 2)
early_arrival = refl

late_arrival : first_broken (two_flights 1 9 9) (plan_with (trip_at 1 8)) ≡ Some (broken.Window 1 2)
late_arrival = refl

-- It enters the sector past the day.
past_the_day : first_broken (two_flights 1 9 9)
    (plan_with (stop_at 0 4 ∷ stop_at 1 8 ∷ stop_at 2 7 ∷ [])) ≡ Some (broken.Window 1 1)
past_the_day = refl

-- No leg leads from the origin to the destination, nor to a node that the flight hasn't.
no_leg : first_broken (two_flights 1 9 9) (plan_with (stop_at 0 1 ∷ stop_at 2 3 ∷ []))
    ≡ Some (broken.NoLeg 1 0)
no_leg = refl

no_node : first_broken (two_flights 1 9 9)
    (plan_with (stop_at 0 1 ∷ stop_at 1 1 ∷ stop_at 9 99 ∷ [])) ≡ Some (broken.NoLeg 1 1)
no_node = refl

-- It is a period too fast, and ends in the sector.
least : first_broken (two_flights 1 9 9) (plan_with (trip_at 1 2)) ≡ Some (broken.Least 1 1 2)
least = refl

ending : first_broken (two_flights 1 9 9) (plan_with (stop_at 0 1 ∷ stop_at 1 1 ∷ []))
    ≡ Some (broken.Ending 1)
ending = refl

-- The flight back leaves one period after the aircraft has come, and the turnaround is two; nor may
-- any flight leave, which comes after it.
turn : first_broken (there_and_back 0 2) (plan_with (trip_at 3 5)) ≡ Some (broken.Turn 0 2 3)
turn = refl

turn_is_kept : first_broken (there_and_back 1 2) (plan_with (trip_at 4 6)) ≡ None
turn_is_kept = refl

departs_without_capacity : first_broken (there_and_back 0 2) (plan_with (trip_at 4 6))
    ≡ Some (over kind.Dep 0 0 1 0)
departs_without_capacity = refl

-- Both flights on time, where one may depart, arrive and be inside: the departures come first, then
-- the arrivals, then the sector's first period.
departures : first_broken (two_flights 1 1 1) (plan_with (trip_at 0 2))
    ≡ Some (over kind.Dep 0 0 2 1)
departures = refl

arrivals : first_broken (two_flights 9 1 1) (plan_with (trip_at 0 2)) ≡ Some (over kind.Arr 1 2 2 1)
arrivals = refl

sectors : first_broken (two_flights 9 9 1) (plan_with (trip_at 0 2))
    ≡ Some (over kind.Sector 2 0 2 1)
sectors = refl

-- The second enters the sector in the period in which the first leaves it, and a period before.
no_sector : first_broken (two_flights 9 9 1) (plan_with (trip_at 2 4)) ≡ None
no_sector = refl

sector_later : first_broken (two_flights 9 9 1) (plan_with (trip_at 1 4))
    ≡ Some (over kind.Sector 2 1 2 1)
sector_later = refl
