-- Two flights of one route, a flight with its aircraft's flight back, and plans of them.
use Rattle.std.specs.Prelude.{ℕ, ◌+◌, List, [], ◌∷◌, codes}
use Rattle.flow_types.specs.declared.day.Day.{Day}
use Rattle.flow_types.specs.declared.flight.Connection.{Connection}
use Rattle.flow_types.specs.declared.flight.Cost.{Cost}
use Rattle.flow_types.specs.declared.flight.Cost.TheVariants.{Linear}
use Rattle.flow_types.specs.declared.flight.Flight.{Flight}
use Rattle.flow_types.specs.declared.flight.Leg.{Leg}
use Rattle.flow_types.specs.declared.parts.Parts.{Parts}
use Rattle.flow_types.specs.declared.place.Place.{Place}
use Rattle.flow_types.specs.declared.place.PlaceKind.TheVariants.{Airport, Sector}
use Rattle.flow_types.specs.declared.plan.Stop.{Stop}

-- the same capacity in each of eight periods
abbrev pub all_day : ℕ → List ℕ
all_day n = n ∷ n ∷ n ∷ n ∷ n ∷ n ∷ n ∷ n ∷ []

-- an airport with capacities to leave and to arrive at, and a sector with one to be inside
abbrev pub airport_with : List ℕ → ℕ → ℕ → Place
airport_with name leave arrive =
    record { name = name; kind = Airport; first = all_day leave; second = all_day arrive }

abbrev pub sector_with : List ℕ → ℕ → Place
sector_with name inside = record { name = name; kind = Sector; first = all_day inside; second = [] }

-- two airports and a sector, with capacities to leave the first, to arrive at the second and of the
-- sector
abbrev pub places_with : ℕ → ℕ → ℕ → List Place
places_with leave arrive inside =
    airport_with (codes "ORIG") leave 9 ∷ airport_with (codes "DEST") 9 arrive
    ∷ sector_with (codes "S") inside ∷ []

-- the legs through the sector, which takes so long
abbrev pub legs_with : ℕ → List Leg
legs_with least = record { from = 0; to = 1; least = 0 } ∷ record {
  from = 1;
  to = 2;
  least = least;
} ∷ []

-- a flight that is scheduled to take two periods, the least that it can take
abbrev pub flight_with : List ℕ → ℕ → ℕ → ℕ → Cost → Flight
flight_with name from to departs cost = record {
  name = name;
  from = from;
  to = to;
  sd = departs;
  sa = departs + 2;
  mg = 4;
  md = 5;
  nodes = from ∷ 2 ∷ to ∷ [];
  legs = legs_with 2;
  cost = cost;
}

-- a flight, another one that is scheduled alike, and the flight of the first one's aircraft back
abbrev pub there : Flight
there = flight_with (codes "F1") 0 1 0 (Linear 1 2)

abbrev pub beside : Flight
beside = flight_with (codes "F2") 0 1 0 (Linear 1 2)

abbrev pub back : Flight
back = flight_with (codes "G1") 1 0 3 (Linear 1 2)

abbrev pub day : Day
day = record { year = 2011; month = 3; day = 14; hour = 6; minute = 0; minutes = 15; periods = 8 }

-- the first flight with a second one, and with connections
abbrev pub day_with : List Place → Flight → List Connection → Parts
day_with places second connections = record {
  day = day;
  places = places;
  flights = there ∷ second ∷ [];
  tables = [];
  connections = connections;
}

-- the two flights, with capacities to leave, to arrive and inside the sector
abbrev pub two_flights : ℕ → ℕ → ℕ → Parts
two_flights leave arrive inside = day_with (places_with leave arrive inside) beside []

-- there and back, with a capacity to leave the first airport, and a turnaround
abbrev pub there_and_back : ℕ → ℕ → Parts
there_and_back leave turnaround =
    day_with (places_with leave 9 9) back (record {
      first = 0;
      second = 1;
      turnaround = turnaround;
    } ∷ [])

abbrev pub stop_at : ℕ → ℕ → Stop
stop_at node time = record { node = node; time = time }

-- a trip that departs in one period, is in the sector at once, and arrives in another one
abbrev pub trip_at : ℕ → ℕ → List Stop
trip_at departure arrival = stop_at 0 departure ∷ stop_at 1 departure ∷ stop_at 2 arrival ∷ []

-- the first flight on time, and the second one's trip
abbrev pub plan_with : List Stop → List (List Stop)
plan_with second = trip_at 0 2 ∷ second ∷ []
