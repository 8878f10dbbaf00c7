-- The visits to the places of the flight there and back.
use Rattle.std.proofs.Common.{◌≡◌, List, [], ◌∷◌, refl}
use Rattle.flow_types.specs.declared.flight.Flight.{Flight}
use Rattle.bytime_model.specs.Visits.{visits_at}
use Rattle.worked_days.specs.Days.{there_and_back}

abbrev flights : List Flight
flights = (there_and_back 1 1).flights

-- the first departs from the airport, and the second arrives there
at_home : visits_at 0 flights
    ≡ record { flight = 0; node = 0 } ∷ record { flight = 1; node = 2 } ∷ []
at_home = refl

-- and the other way
away : visits_at 1 flights
    ≡ record { flight = 0; node = 2 } ∷ record { flight = 1; node = 0 } ∷ []
away = refl

-- both pass the sector
between : visits_at 2 flights
    ≡ record { flight = 0; node = 1 } ∷ record { flight = 1; node = 1 } ∷ []
between = refl

nowhere : visits_at 3 flights ≡ []
nowhere = refl
