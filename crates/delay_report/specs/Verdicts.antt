-- What is printed of a plan that was judged.
use Rattle.std.specs.Prelude.{ℕ, ◌+◌, List, [], ◌++◌, Option, Some, None, slice_get, codes, ℤ}
use Rattle.std.specs.Fmt.{decimal, signed_decimal}
use Rattle.flow_types.specs.declared.flight.Connection.{Connection}
use Rattle.flow_types.specs.declared.flight.Flight.{Flight}
use Rattle.flow_types.specs.declared.parts.Parts.{Parts}
use Rattle.flow_types.specs.declared.plan.Stop.{Stop}
use Rattle.flow_types.specs.Trips.{place_at}
use Rattle.plan_rules.specs.BrokenRules.{stop_at}
use Rattle.plan_rules.specs.declared.broken.Broken.{Broken}
use Rattle.plan_rules.specs.declared.broken.Broken.TheVariants as broken
use Rattle.plan_rules.specs.declared.broken.Overload.{Overload}
use Rattle.plan_text.specs.Lines.{place_name}
use Rattle.text_records.specs.Lines.{field_text, line_text}

-- the cost of a plan that keeps every rule
abbrev pub keeps_text : ℤ → List ℕ
keeps_text cost = line_text (codes "keeps,") (signed_decimal cost)

-- the name of a flight, empty where there is none
abbrev pub flight_name : Option Flight → List ℕ
flight_name None = []
flight_name (Some flight) = flight.name

-- the field of the name of the flight at this position, and of the place at this position
abbrev pub flight_field : Parts → ℕ → List ℕ
flight_field parts position = field_text (flight_name (slice_get parts.flights position))

abbrev pub place_field : Parts → ℕ → List ℕ
place_field parts position = field_text (place_name (slice_get parts.places position))

-- where a stop of a flight is, the place 0 where there is no flight or no stop
abbrev pub place_of_stop : Option Flight → Option Stop → ℕ
place_of_stop None stop = 0
place_of_stop (Some flight) None = 0
place_of_stop (Some flight) (Some stop) = place_at flight stop.node

-- when it is entered, 0 where there is no stop
abbrev pub time_of_stop : Option Stop → ℕ
time_of_stop None = 0
time_of_stop (Some stop) = stop.time

-- the field of the place at which the flight at this position has its stop at this position, and of
-- the period in which it enters that
abbrev pub stop_field : Parts → List (List Stop) → ℕ → ℕ → List ℕ
stop_field parts plan position stop =
    place_field parts (place_of_stop (slice_get parts.flights position)
    (stop_at plan position stop))

abbrev pub time_field : List (List Stop) → ℕ → ℕ → List ℕ
time_field plan position stop = field_text (decimal (time_of_stop (stop_at plan position stop)))

-- the fields of a connection: its flights, the arrival and the departure, the turnaround
abbrev pub turn_fields : Parts → Option Connection → ℕ → ℕ → List ℕ
turn_fields parts None arrives leaves = []
turn_fields parts (Some connection) arrives leaves =
    flight_field parts connection.first ++ (flight_field parts connection.second
    ++ (field_text (decimal arrives)
    ++ (field_text (decimal leaves) ++ field_text (decimal connection.turnaround))))

-- the fields of a capacity that is passed
abbrev pub over_fields : Parts → Overload → List ℕ
over_fields parts over =
    place_field parts over.place
    ++ (field_text (decimal over.period)
    ++ (field_text (decimal over.load) ++ field_text (decimal over.capacity)))

-- the fields that say which rule is broken, and where
abbrev pub broken_fields : Parts → List (List Stop) → Broken → List ℕ
broken_fields parts plan (broken.Trips got need) =
    field_text (codes "trips") ++ (field_text (decimal got) ++ field_text (decimal need))
broken_fields parts plan (broken.Start flight) =
    field_text (codes "start") ++ flight_field parts flight
broken_fields parts plan (broken.Window flight stop) =
    field_text (codes "window")
    ++ (flight_field parts flight
    ++ (stop_field parts plan flight stop ++ time_field plan flight stop))
broken_fields parts plan (broken.NoLeg flight stop) =
    field_text (codes "noleg")
    ++ (flight_field parts flight
    ++ (stop_field parts plan flight stop ++ stop_field parts plan flight (stop + 1)))
broken_fields parts plan (broken.Least flight stop least) =
    field_text (codes "least") ++ (flight_field parts flight
    ++ (stop_field parts plan flight stop ++ (time_field plan flight stop
    ++ (stop_field parts plan flight (stop + 1)
    ++ (time_field plan flight (stop + 1) ++ field_text (decimal least))))))
broken_fields parts plan (broken.Ending flight) =
    field_text (codes "ending") ++ flight_field parts flight
broken_fields parts plan (broken.Turn connection arrives leaves) =
    field_text (codes "turn")
    ++ turn_fields parts (slice_get parts.connections connection) arrives leaves
broken_fields parts plan (broken.Departures over) =
    field_text (codes "departures") ++ over_fields parts over
broken_fields parts plan (broken.Arrivals over) =
    field_text (codes "arrivals") ++ over_fields parts over
broken_fields parts plan (broken.Sectors over) =
    field_text (codes "sectors") ++ over_fields parts over

-- the line of a broken rule
abbrev pub broken_text : Parts → List (List Stop) → Broken → List ℕ
broken_text parts plan rule = codes "broken" ++ (broken_fields parts plan rule ++ codes "\n")
