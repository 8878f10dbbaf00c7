-- The made day: its scenario, and its text.
use Rattle.std.specs.Prelude.{ℕ, ◌+◌, ◌-◌, ◌/◌, ◌%◌, ◌==◌, Bool, true, false, List, [], ◌∷◌, ◌++◌, replicate, if◌then◌else◌}
use Rattle.exact_sums.specs.Lists.{all_below}
use Rattle.flow_types.specs.declared.day.Day.{Day}
use Rattle.flow_types.specs.declared.flight.Connection.{Connection}
use Rattle.flow_types.specs.declared.flight.Cost.TheVariants.{Linear}
use Rattle.flow_types.specs.declared.flight.Flight.{Flight}
use Rattle.flow_types.specs.declared.flight.Leg.{Leg}
use Rattle.flow_types.specs.declared.parts.Parts.{Parts}
use Rattle.flow_types.specs.declared.place.Place.{Place}
use Rattle.flow_types.specs.declared.place.PlaceKind.TheVariants.{Airport, Sector}
use Rattle.scenario_maker.specs.Courses.{airport_id, course_of, first_sector, flight_id, second_sector, sector_id, third_sector}
use Rattle.scenario_maker.specs.Writing.{scenario_text}

-- 96 periods of 15 minutes
abbrev pub made_day : Day
made_day = record {
  year = 2011;
  month = 3;
  day = 14;
  hour = 6;
  minute = 0;
  minutes = 15;
  periods = 96;
}

abbrev pub made_airport : ℕ → ℕ → Place
made_airport room k = record {
  name = airport_id k;
  kind = Airport;
  first = replicate 96 room;
  second = replicate 96 room;
}

abbrev pub made_sector : ℕ → ℕ → Place
made_sector room k =
    record { name = sector_id k; kind = Sector; first = replicate 96 room; second = [] }

-- six airports, then ten sectors
abbrev pub made_places : ℕ → List Place
made_places n =
    all_below 6 (λ k. made_airport (1 + n / 120) k ∷ [])
    ++ all_below 10 (λ k. made_sector (1 + n / 60) k ∷ [])

abbrev pub made_leg : ℕ → ℕ → ℕ → Leg
made_leg from to least = record { from = from; to = to; least = least }

-- with another way, and without
abbrev pub ways_nodes : Bool → ℕ → List ℕ
ways_nodes true i =
    (course_of i).from ∷ (6 + first_sector i) ∷ (6 + second_sector i) ∷ (6 + third_sector i)
    ∷ (course_of i).to ∷ []
ways_nodes false i =
    (course_of i).from ∷ (6 + first_sector i) ∷ (6 + second_sector i) ∷ (course_of i).to ∷ []

abbrev pub ways_legs : Bool → List Leg
ways_legs true =
    made_leg 0 1 1 ∷ made_leg 1 2 2 ∷ made_leg 2 4 2 ∷ made_leg 1 3 3 ∷ made_leg 3 4 2 ∷ []
ways_legs false = made_leg 0 1 1 ∷ made_leg 1 2 2 ∷ made_leg 2 3 2 ∷ []

abbrev pub flight_by : Bool → ℕ → Flight
flight_by another i = record {
  name = flight_id i;
  from = (course_of i).from;
  to = (course_of i).to;
  sd = (course_of i).departs;
  sa = (course_of i).departs + 5;
  mg = 8;
  md = 8;
  nodes = ways_nodes another i;
  legs = ways_legs another;
  cost = Linear 1 2;
}

abbrev pub made_flight : ℕ → Flight
made_flight i = flight_by (i % 3 == 0) i

abbrev pub made_flights : ℕ → List Flight
made_flights n = all_below n (λ i. made_flight i ∷ [])

-- a flight back departs two periods after the one before it has arrived, or later
abbrev pub made_connection : ℕ → Connection
made_connection i = record { first = i - 1; second = i; turnaround = 2 }

abbrev pub made_connections : ℕ → List Connection
made_connections n = all_below n (λ i. if i % 3 == 2 then made_connection i ∷ [] else [])

abbrev pub made_parts : ℕ → Parts
made_parts n = record {
  day = made_day;
  places = made_places n;
  flights = made_flights n;
  tables = [];
  connections = made_connections n;
}

unfoldable pub made_text : ℕ → List ℕ
made_text n = scenario_text (made_parts n)
