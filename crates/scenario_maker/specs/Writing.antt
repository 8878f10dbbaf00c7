-- The text of a scenario, byte by byte: its records, and a line for each.
use Rattle.std.specs.Prelude.{ℕ, ◌+◌, ◌/◌, ◌%◌, ◌==◌, Bool, ◌&&◌, nat_lt, List, [], ◌∷◌, ◌++◌, map, Option, None, Some, slice_get, slice_index, codes, if◌then◌else◌}
use Rattle.std.specs.Fmt.{decimal, signed_decimal}
use Rattle.flow_types.specs.declared.day.Day.{Day}
use Rattle.flow_types.specs.declared.flight.Connection.{Connection}
use Rattle.flow_types.specs.declared.flight.Cost.{Cost}
use Rattle.flow_types.specs.declared.flight.Cost.TheVariants.{Linear, Tables}
use Rattle.flow_types.specs.declared.flight.CostTable.{CostTable}
use Rattle.flow_types.specs.declared.flight.Flight.{Flight}
use Rattle.flow_types.specs.declared.flight.Leg.{Leg}
use Rattle.flow_types.specs.declared.parts.Parts.{Parts}
use Rattle.flow_types.specs.declared.place.Place.{Place}
use Rattle.flow_types.specs.declared.place.PlaceKind.{PlaceKind}
use Rattle.flow_types.specs.declared.place.PlaceKind.TheVariants.{Airport, Sector}
use Rattle.flow_types.specs.Trips.{place_at}
use Rattle.text_records.specs.Lines.{field_text}
use Rattle.text_records.specs.Rows.{Fields}

-- the last digit of a number, as a byte
abbrev pub digit : ℕ → ℕ
digit n = 48 + n % 10

-- the date and time at which the day begins, as `YYYY-MM-DDTHH:MM`
unfoldable pub beginning_text : Day → List ℕ
beginning_text day =
    digit (day.year / 1000) ∷ digit (day.year / 100) ∷ digit (day.year / 10) ∷ digit day.year ∷ 45
    ∷ digit (day.month / 10) ∷ digit day.month ∷ 45 ∷ digit (day.day / 10) ∷ digit day.day ∷ 84
    ∷ digit (day.hour / 10) ∷ digit day.hour ∷ 58 ∷ digit (day.minute / 10) ∷ digit day.minute ∷ []

abbrev pub day_row : Day → Fields
day_row day =
    codes "day" ∷ beginning_text day ∷ decimal day.minutes ∷ decimal day.periods ∷ []

-- the capacity of period 0
abbrev pub first_of : List ℕ → ℕ
first_of caps = slice_index caps 0

-- an airport or a sector, with its capacities of period 0
abbrev pub place_row_of : PlaceKind → Place → Fields
place_row_of Airport place =
    codes "airport" ∷ place.name ∷ decimal (first_of place.first)
    ∷ decimal (first_of place.second) ∷ []
place_row_of Sector place = codes "sector" ∷ place.name ∷ decimal (first_of place.first) ∷ []

abbrev pub place_row : Place → Fields
place_row place = place_row_of place.kind place

-- a change of one capacity of the place
abbrev pub cap_row : List ℕ → List ℕ → ℕ → ℕ → Fields
cap_row word name period value =
    codes "cap" ∷ word ∷ name ∷ decimal period ∷ decimal period ∷ decimal value ∷ []

-- the capacities from this period on that aren't `usual`
abbrev pub cap_rows : List ℕ → List ℕ → ℕ → ℕ → List ℕ → List Fields
cap_rows word name usual period [] = []
cap_rows word name usual period (value ∷ values) =
    if value == usual then cap_rows word name usual (period + 1) values
    else cap_row word name period value ∷ cap_rows word name usual (period + 1) values

-- the capacities of the place that aren't those of period 0
abbrev pub change_rows_of : PlaceKind → Place → List Fields
change_rows_of Airport place =
    cap_rows (codes "dep") place.name (first_of place.first) 0 place.first
    ++ cap_rows (codes "arr") place.name (first_of place.second) 0 place.second
change_rows_of Sector place =
    cap_rows (codes "sector") place.name (first_of place.first) 0 place.first

abbrev pub change_rows : List Place → List Fields
change_rows [] = []
change_rows (place ∷ places) = change_rows_of place.kind place ++ change_rows places

abbrev pub table_row : CostTable → Fields
table_row table = codes "table" ∷ table.name ∷ map signed_decimal table.values

-- the name of a place, of a table, of a flight, empty where there is none
abbrev pub place_name : Option Place → List ℕ
place_name None = []
place_name (Some place) = place.name

abbrev pub table_name : Option CostTable → List ℕ
table_name None = []
table_name (Some table) = table.name

abbrev pub flight_name : Option Flight → List ℕ
flight_name None = []
flight_name (Some flight) = flight.name

-- the prices of a flight, 0 where its cost is by tables
abbrev pub on_ground_of : Cost → ℕ
on_ground_of (Linear on_ground airborne) = on_ground
on_ground_of (Tables total credit) = 0

abbrev pub airborne_of : Cost → ℕ
airborne_of (Linear on_ground airborne) = airborne
airborne_of (Tables total credit) = 0

abbrev pub price_fields : Cost → Fields
price_fields cost = decimal (on_ground_of cost) ∷ decimal (airborne_of cost) ∷ []

-- the times, greatest delays and prices of a flight
abbrev pub hours_fields : Flight → Fields
hours_fields flight =
    decimal flight.sd ∷ decimal flight.sa ∷ decimal flight.mg ∷ decimal flight.md
    ∷ price_fields flight.cost

abbrev pub flight_row : List Place → Flight → Fields
flight_row places flight =
    codes "flight" ∷ flight.name ∷ place_name (slice_get places flight.from)
    ∷ place_name (slice_get places flight.to) ∷ hours_fields flight

abbrev pub leg_row : List Place → Flight → Leg → Fields
leg_row places flight leg =
    codes "leg" ∷ flight.name ∷ place_name (slice_get places (place_at flight leg.from))
    ∷ place_name (slice_get places (place_at flight leg.to)) ∷ decimal leg.least ∷ []

-- the tables of the flight, if its cost is by tables
abbrev pub cost_rows : List CostTable → List ℕ → Cost → List Fields
cost_rows tables name (Linear on_ground airborne) = []
cost_rows tables name (Tables total credit) =
    (codes "cost" ∷ name ∷ table_name (slice_get tables total)
    ∷ table_name (slice_get tables credit) ∷ []) ∷ []

-- the flight, its legs and its tables
abbrev pub flight_rows : List Place → List CostTable → Flight → List Fields
flight_rows places tables flight =
    flight_row places flight
    ∷ (map (leg_row places flight) flight.legs ++ cost_rows tables flight.name flight.cost)

abbrev pub connection_row : List Flight → Connection → Fields
connection_row flights connection =
    codes "connect" ∷ flight_name (slice_get flights connection.first)
    ∷ flight_name (slice_get flights connection.second) ∷ decimal connection.turnaround ∷ []

-- whether the connection can stand behind so many flights: both of its own are among them
abbrev pub can_stand : ℕ → Connection → Bool
can_stand count connection = nat_lt connection.first count && nat_lt connection.second count

-- the connections at the front that can stand there, and those that still wait
abbrev pub standing : ℕ → List Connection → List Connection
standing count [] = []
standing count (connection ∷ connections) =
    if can_stand count connection then connection ∷ standing count connections else []

abbrev pub waiting : ℕ → List Connection → List Connection
waiting count [] = []
waiting count (connection ∷ connections) =
    if can_stand count connection then waiting count connections else connection ∷ connections

-- the flights behind so many of `all`, and behind each of them the connections that can stand there
abbrev pub traffic_rows : List Place → List CostTable → List Flight → ℕ → List Flight
    → List Connection → List Fields
traffic_rows places tables all count [] connections = []
traffic_rows places tables all count (flight ∷ flights) connections =
    flight_rows places tables flight
    ++ (map (connection_row all) (standing (count + 1) connections)
    ++ traffic_rows places tables all (count + 1) flights (waiting (count + 1) connections))

-- The records of the text: the day, its places and what changes there, its tables, and its flights,
-- with each connection as soon as both of its flights, and the connections before it, are there.
abbrev pub scenario_rows : Parts → List Fields
scenario_rows parts =
    day_row parts.day
    ∷ (map place_row parts.places
    ++ (change_rows parts.places
    ++ (map table_row parts.tables
    ++ traffic_rows parts.places parts.tables parts.flights 0 parts.flights parts.connections)))

-- the fields after the first, and the line of a record
abbrev pub more_text : Fields → List ℕ
more_text [] = codes "\n"
more_text (field ∷ fields) = field_text field ++ more_text fields

abbrev pub row_text : Fields → List ℕ
row_text [] = codes "\n"
row_text (field ∷ fields) = field ++ more_text fields

abbrev pub rows_text : List Fields → List ℕ
rows_text [] = []
rows_text (row ∷ rows) = row_text row ++ rows_text rows

-- The text of a scenario. No name has a byte that calls for quotes, so there are none.
abbrev pub scenario_text : Parts → List ℕ
scenario_text parts = rows_text (scenario_rows parts)
