-- The line of a trip, byte by byte.
use Rattle.std.specs.Prelude.{ℕ, List, [], ◌∷◌, ◌++◌, Option, None, Some, slice_get, codes}
use Rattle.std.specs.Fmt.{decimal}
use Rattle.flow_types.specs.declared.flight.Flight.{Flight}
use Rattle.flow_types.specs.declared.place.Place.{Place}
use Rattle.flow_types.specs.declared.plan.Stop.{Stop}
use Rattle.flow_types.specs.Trips.{place_at}
use Rattle.text_records.specs.Lines.{field_text}

-- the name of a place, empty where there is none
abbrev pub place_name : Option Place → List ℕ
place_name None = []
place_name (Some place) = place.name

-- a place and a period for each stop
abbrev pub stop_text : List Place → Flight → Stop → List ℕ
stop_text places flight stop =
    field_text (place_name (slice_get places (place_at flight stop.node)))
    ++ field_text (decimal stop.time)

abbrev pub stops_text : List Place → Flight → List Stop → List ℕ
stops_text places flight [] = []
stops_text places flight (stop ∷ stops) =
    stop_text places flight stop ++ stops_text places flight stops

-- a line for the trip of a flight
abbrev pub trip_text : List Place → Flight → List Stop → List ℕ
trip_text places flight stops =
    codes "trip," ++ (flight.name ++ (stops_text places flight stops ++ codes "\n"))
