-- The texts of the worked days, and of plans of them.
use Rattle.std.specs.Prelude.{ℕ, List, ◌++◌, codes}

-- a day of one flight, of which one may leave in a period
abbrev pub first_flight_text : List ℕ
first_flight_text = codes
    "day,2011-03-14T06:00,15,8\nairport,ORIG,1,9\nairport,DEST,9,9\nsector,S,9\nflight,F1,ORIG,DEST,0,2,4,5,1,2\nleg,F1,ORIG,S,0\nleg,F1,S,DEST,2\n"

-- with a flight that is scheduled alike
abbrev pub two_flights_text : List ℕ
two_flights_text = first_flight_text
    ++ codes "flight,F2,ORIG,DEST,0,2,4,5,1,2\nleg,F2,ORIG,S,0\nleg,F2,S,DEST,2\n"

-- with the flight of its aircraft back, after a turnaround of two periods
abbrev pub there_and_back_text : List ℕ
there_and_back_text =
    first_flight_text ++ codes
    "flight,G1,DEST,ORIG,3,5,4,5,1,2\nleg,G1,DEST,S,0\nleg,G1,S,ORIG,2\nconnect,F1,G1,2\n"

-- both of the two flights on time
abbrev pub on_time_text : List ℕ
on_time_text = codes "trip,F1,ORIG,0,S,0,DEST,2\ntrip,F2,ORIG,0,S,0,DEST,2\n"
