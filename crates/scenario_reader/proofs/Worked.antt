-- Worked texts: what the definition makes of them, computed.
use Rattle.std.proofs.Common.{◌≡◌, Ok, Err, refl}
use Rattle.std.specs.Prelude.{IsOkAnd, map, pos, neg_ℤ, codes, ℕ, List, [], ◌∷◌, ◌++◌, replicate}
use Rattle.csv.proofs.OnLiterals.{csv_on_literals}
use Rattle.flow_types.specs.declared.fault.Cause.TheVariants as cause
use Rattle.flow_types.specs.declared.flight.Cost.TheVariants.{Linear, Tables}
use Rattle.flow_types.specs.declared.place.PlaceKind.TheVariants.{Airport, Sector}
use Rattle.text_records.specs.Errors.{fault_at}
use Rattle.worked_days.specs.Days.{two_flights}
use Rattle.worked_days.specs.Texts.{two_flights_text}
use Rattle.text_records.specs.Fields.{name_in, number_in}
use Rattle.text_records.specs.Names.{new_name}
use Rattle.scenario_reader.specs.Dates.{moment_of}
use Rattle.scenario_reader.specs.Places.{day_of, airport_of, sector_of}
use Rattle.scenario_reader.specs.Flights.{flight_name_of, origin_in, destination_in, arrival_in, hours_in, cost_in, flight_of}
use Rattle.scenario_reader.specs.Legs.{flight_in, own_in, start_in, end_in, leg_of, leg_in}
use Rattle.text_records.specs.Names.{known_in}
use Rattle.scenario_reader.specs.Connections.{first_in, second_in, connection_of}
use Rattle.scenario_reader.specs.Tables.{values_from, table_of, untabled_in, table_in, pricing_of}
use Rattle.scenario_reader.specs.Capacities.{place_in, last_in, cap_change_of}
use Rattle.scenario_reader.specs.Reading.{connect_step, table_step, cost_step, cap_step}
use Rattle.scenario_reader.specs.Finish.{finished_flight, finished_flights, finished}
use Rattle.scenario_reader.specs.Reading.{airport_step, sector_step, flight_step, leg_step, record_step, records_step, first_step, scenario_from, scenario_of}

-- what has to be opened to compute a text
unfoldable text_on_literals : Unit {0}
unfolding csv_on_literals known_in first_in second_in connection_of values_from table_of untabled_in
    table_in pricing_of place_in last_in cap_change_of connect_step table_step cost_step cap_step
    name_in number_in new_name moment_of day_of airport_of sector_of flight_name_of origin_in
    destination_in arrival_in hours_in cost_in flight_of flight_in own_in start_in end_in leg_of
    leg_in finished_flight finished_flights finished airport_step sector_step flight_step leg_step
    record_step records_step first_step scenario_from
text_on_literals = tt

-- the day of two flights with more records
abbrev with_more : List ℕ → List ℕ
with_more more = two_flights_text ++ more

day_of_two_flights : scenario_of two_flights_text ≡ Ok (two_flights 1 9 9)
unfolding text_on_literals
day_of_two_flights = refl

no_record : scenario_of (codes "\n\n") ≡ Err (fault_at 1 1 cause.NoDay)
unfolding text_on_literals
no_record = refl

no_day_first : scenario_of (codes "sector,S,1\nday,2011-03-14T06:00,15,8\n")
    ≡ Err (fault_at 1 1 cause.NoDay)
unfolding text_on_literals
no_day_first = refl

no_such_day : scenario_of (codes "day,1900-02-29T06:00,15,8\n") ≡ Err (fault_at 1 2 cause.BadDate)
unfolding text_on_literals
no_such_day = refl

no_such_hour : scenario_of (codes "day,2011-03-14T24:00,15,8\n") ≡ Err (fault_at 1 2 cause.BadDate)
unfolding text_on_literals
no_such_hour = refl

a_year_too_late : scenario_of (codes "day,9999-03-14T06:00,15,8\n")
    ≡ Err (fault_at 1 2 cause.BadDate)
unfolding text_on_literals
a_year_too_late = refl

a_date_too_long : scenario_of (codes "day,2011-03-14T06:00:00,15,8\n")
    ≡ Err (fault_at 1 2 cause.BadDate)
unfolding text_on_literals
a_date_too_long = refl

no_periods : scenario_of (codes "day,2011-03-14T06:00,15,0\n") ≡ Err (fault_at 1 4 cause.OutOfRange)
unfolding text_on_literals
no_periods = refl

a_day_alone : scenario_of (239 ∷ 187 ∷ 191 ∷ codes "day,2000-02-29T23:59,\"120\",512\r\n\n")
    ≡ Ok (record {
      day = record {
        year = 2000;
        month = 2;
        day = 29;
        hour = 23;
        minute = 59;
        minutes = 120;
        periods = 512;
      };
      places = [];
      flights = [];
      tables = [];
      connections = [];
    })
unfolding text_on_literals
a_day_alone = refl

a_network : scenario_of
    (codes "day,2024-02-29T23:59,1,512\nsector,A,0\nairport,X,0,1000000\nsector,B,1000000\nairport,Y,7,007\nflight,f-_9,X,Y,0,511,0,511,1000000,0\nleg,f-_9,X,B,511\nleg,f-_9,X,A,0\nleg,f-_9,B,A,3\nleg,f-_9,B,Y,9\nleg,f-_9,A,Y,1\nleg,f-_9,X,Y,2\n") ≡ Ok (record { day = record { year = 2024; month = 2; day = 29; hour = 23; minute = 59; minutes = 1; periods = 512 }; places = (record { name = (codes "A"); kind = Sector; first = replicate 512 0; second = [] } ∷ record { name = (codes "X"); kind = Airport; first = replicate 512 0; second = (replicate 512 1000000) } ∷ record { name = (codes "B"); kind = Sector; first = replicate 512 1000000; second = [] } ∷ record { name = (codes "Y"); kind = Airport; first = replicate 512 7; second = (replicate 512 7) } ∷ []); flights = (record { name = (codes "f-_9"); from = 1; to = 3; sd = 0; sa = 511; mg = 0; md = 511; nodes = (1 ∷ 2 ∷ 0 ∷ 3 ∷ []); legs = (record { from = 0; to = 1; least = 511 } ∷ record { from = 0; to = 2; least = 0 } ∷ record { from = 1; to = 2; least = 3 } ∷ record { from = 1; to = 3; least = 9 } ∷ record { from = 2; to = 3; least = 1 } ∷ record { from = 0; to = 3; least = 2 } ∷ []); cost = Linear 1000000 0 } ∷ []); tables = []; connections = [] })
unfolding text_on_literals
a_network = refl

a_second_day : scenario_of (with_more (codes "day,2011-03-14T06:00,15,8\n"))
    ≡ Err (fault_at 11 1 cause.Repeated)
unfolding text_on_literals
a_second_day = refl

an_unknown_kind : scenario_of (with_more (codes "Leg,F1,ORIG,DEST,2\n"))
    ≡ Err (fault_at 11 1 cause.UnknownKind)
unfolding text_on_literals
an_unknown_kind = refl

a_place_again : scenario_of (with_more (codes "airport,S,1,1\n"))
    ≡ Err (fault_at 11 2 cause.Repeated)
unfolding text_on_literals
a_place_again = refl

a_name_with_a_space : scenario_of (with_more (codes "sector,S T,1\n"))
    ≡ Err (fault_at 11 2 cause.BadName)
unfolding text_on_literals
a_name_with_a_space = refl

a_capacity_too_great : scenario_of (with_more (codes "sector,T,1000001\n"))
    ≡ Err (fault_at 11 3 cause.OutOfRange)
unfolding text_on_literals
a_capacity_too_great = refl

a_signed_capacity : scenario_of (with_more (codes "sector,T,-1\n"))
    ≡ Err (fault_at 11 3 cause.BadNumber)
unfolding text_on_literals
a_signed_capacity = refl

arrivals_missing : scenario_of (with_more (codes "airport,T,5\n"))
    ≡ Err (fault_at 11 4 cause.MissingField)
unfolding text_on_literals
arrivals_missing = refl

a_field_too_many : scenario_of (with_more (codes "sector,T,5,\n"))
    ≡ Err (fault_at 11 4 cause.ExtraField)
unfolding text_on_literals
a_field_too_many = refl

a_flight_again : scenario_of (with_more (codes "flight,F2,ORIG,DEST,0,2,4,5,1,2\n"))
    ≡ Err (fault_at 11 2 cause.Repeated)
unfolding text_on_literals
a_flight_again = refl

from_a_sector : scenario_of (with_more (codes "flight,F3,S,DEST,0,2,4,5,1,2\n"))
    ≡ Err (fault_at 11 3 cause.UnknownName)
unfolding text_on_literals
from_a_sector = refl

back_to_the_origin : scenario_of (with_more (codes "flight,F3,ORIG,ORIG,0,2,4,5,1,2\n"))
    ≡ Err (fault_at 11 4 cause.Repeated)
unfolding text_on_literals
back_to_the_origin = refl

after_the_day : scenario_of (with_more (codes "flight,F3,ORIG,DEST,0,8,4,5,1,2\n"))
    ≡ Err (fault_at 11 6 cause.OutOfRange)
unfolding text_on_literals
after_the_day = refl

arrival_before_departure : scenario_of (with_more (codes "flight,F3,ORIG,DEST,3,2,4,5,1,2\n"))
    ≡ Err (fault_at 11 6 cause.BackInTime)
unfolding text_on_literals
arrival_before_departure = refl

a_delay_too_great : scenario_of (with_more (codes "flight,F3,ORIG,DEST,0,2,4,512,1,2\n"))
    ≡ Err (fault_at 11 8 cause.OutOfRange)
unfolding text_on_literals
a_delay_too_great = refl

an_earlier_field_first : scenario_of (with_more (codes "flight,F3,ORIG,NONE,9,2,4,512,1\n"))
    ≡ Err (fault_at 11 4 cause.UnknownName)
unfolding text_on_literals
an_earlier_field_first = refl

a_leg_of_no_flight : scenario_of (with_more (codes "leg,F3,ORIG,DEST,1\n"))
    ≡ Err (fault_at 11 2 cause.UnknownName)
unfolding text_on_literals
a_leg_of_no_flight = refl

a_leg_from_nowhere : scenario_of (with_more (codes "leg,F2,T,DEST,1\n"))
    ≡ Err (fault_at 11 3 cause.UnknownName)
unfolding text_on_literals
a_leg_from_nowhere = refl

a_leg_from_the_destination : scenario_of (with_more (codes "leg,F2,DEST,S,1\n"))
    ≡ Err (fault_at 11 3 cause.Unreached)
unfolding text_on_literals
a_leg_from_the_destination = refl

a_leg_again : scenario_of (with_more (codes "leg,F2,S,DEST,1\n"))
    ≡ Err (fault_at 11 4 cause.Repeated)
unfolding text_on_literals
a_leg_again = refl

a_leg_back : scenario_of (with_more (codes "leg,F2,S,ORIG,1\n")) ≡ Err (fault_at 11 4 cause.BackLeg)
unfolding text_on_literals
a_leg_back = refl

a_leg_to_its_start : scenario_of (with_more (codes "leg,F2,S,S,1\n"))
    ≡ Err (fault_at 11 4 cause.BackLeg)
unfolding text_on_literals
a_leg_to_its_start = refl

a_least_time_too_great : scenario_of (with_more (codes "leg,F2,ORIG,DEST,512\n"))
    ≡ Err (fault_at 11 5 cause.OutOfRange)
unfolding text_on_literals
a_least_time_too_great = refl

no_way_to_the_destination : scenario_of (with_more (codes "flight,F3,ORIG,DEST,0,2,4,5,1,2\n"))
    ≡ Err (fault_at 11 1 cause.NoRoute)
unfolding text_on_literals
no_way_to_the_destination = refl

a_sector_that_none_leaves : scenario_of (with_more (codes "sector,T,1\nleg,F1,S,T,1\n"))
    ≡ Err (fault_at 5 1 cause.DeadEnd)
unfolding text_on_literals
a_sector_that_none_leaves = refl

the_first_flight_first : scenario_of
    (with_more (codes "sector,T,1\nflight,F3,ORIG,DEST,0,2,4,5,1,2\nleg,F2,ORIG,T,1\n"))
    ≡ Err (fault_at 8 1 cause.DeadEnd)
unfolding text_on_literals
the_first_flight_first = refl

flights_that_do_not_meet : scenario_of (with_more (codes "connect,F1,F2,2\n"))
    ≡ Err (fault_at 11 3 cause.Apart)
unfolding text_on_literals
flights_that_do_not_meet = refl

a_flight_with_itself : scenario_of (with_more (codes "connect,F1,F1,2\n"))
    ≡ Err (fault_at 11 3 cause.Apart)
unfolding text_on_literals
a_flight_with_itself = refl

connected_again : scenario_of
    (with_more (codes "flight,G,DEST,ORIG,3,5,1,1,1,2\nleg,G,DEST,ORIG,2\nconnect,F1,G,2\nconnect,F1,G,3\n")) ≡ Err (fault_at 14 3 cause.Repeated)
unfolding text_on_literals
connected_again = refl

connected_to_no_flight : scenario_of (with_more (codes "connect,F1,G,2\n"))
    ≡ Err (fault_at 11 3 cause.UnknownName)
unfolding text_on_literals
connected_to_no_flight = refl

a_turnaround_too_great : scenario_of
    (with_more (codes "flight,G,DEST,ORIG,3,5,1,1,1,2\nconnect,F1,G,512\n"))
    ≡ Err (fault_at 12 4 cause.OutOfRange)
unfolding text_on_literals
a_turnaround_too_great = refl

a_connection_of_no_flight : scenario_of (with_more (codes "connect,F 1,G,2\n"))
    ≡ Err (fault_at 11 2 cause.BadName)
unfolding text_on_literals
a_connection_of_no_flight = refl

a_table_of_no_values : scenario_of (with_more (codes "table,TT\n"))
    ≡ Err (fault_at 11 3 cause.MissingField)
unfolding text_on_literals
a_table_of_no_values = refl

a_table_again : scenario_of (with_more (codes "table,TT,1\ntable,TT,2\n"))
    ≡ Err (fault_at 12 2 cause.Repeated)
unfolding text_on_literals
a_table_again = refl

a_value_too_great : scenario_of (with_more (codes "table,TT,1000000000,1000000001\n"))
    ≡ Err (fault_at 11 4 cause.OutOfRange)
unfolding text_on_literals
a_value_too_great = refl

a_value_too_small : scenario_of (with_more (codes "table,TT,-1000000001\n"))
    ≡ Err (fault_at 11 3 cause.OutOfRange)
unfolding text_on_literals
a_value_too_small = refl

a_value_with_two_signs : scenario_of (with_more (codes "table,TT,--1\n"))
    ≡ Err (fault_at 11 3 cause.BadNumber)
unfolding text_on_literals
a_value_with_two_signs = refl

a_sign_alone : scenario_of (with_more (codes "table,TT,-\n")) ≡ Err (fault_at 11 3 cause.BadNumber)
unfolding text_on_literals
a_sign_alone = refl

an_empty_value : scenario_of (with_more (codes "table,TT,1,,2\n"))
    ≡ Err (fault_at 11 4 cause.BadNumber)
unfolding text_on_literals
an_empty_value = refl

costs_of_no_flight : scenario_of (with_more (codes "cost,F3,TT,CC\n"))
    ≡ Err (fault_at 11 2 cause.UnknownName)
unfolding text_on_literals
costs_of_no_flight = refl

costs_by_no_table : scenario_of (with_more (codes "cost,F1,TT,CC\n"))
    ≡ Err (fault_at 11 3 cause.UnknownName)
unfolding text_on_literals
costs_by_no_table = refl

totals_too_short : scenario_of (with_more (codes "table,TT,1,2,3,4,5\ncost,F1,TT,TT\n"))
    ≡ Err (fault_at 12 3 cause.ShortTable)
unfolding text_on_literals
totals_too_short = refl

credits_too_short : scenario_of
    (with_more (codes "table,TT,1,2,3,4,5,6\ntable,CC,1,2,3,4\ncost,F1,TT,CC\n"))
    ≡ Err (fault_at 13 4 cause.ShortTable)
unfolding text_on_literals
credits_too_short = refl

costs_again : scenario_of (with_more (codes "table,TT,1,2,3,4,5,6\ncost,F1,TT,TT\ncost,F1,TT,TT\n"))
    ≡ Err (fault_at 13 2 cause.Repeated)
unfolding text_on_literals
costs_again = refl

no_kind_of_capacity : scenario_of (with_more (codes "cap,flow,ORIG,0,1,2\n"))
    ≡ Err (fault_at 11 2 cause.UnknownKind)
unfolding text_on_literals
no_kind_of_capacity = refl

a_departure_from_a_sector : scenario_of (with_more (codes "cap,dep,S,0,1,2\n"))
    ≡ Err (fault_at 11 3 cause.UnknownName)
unfolding text_on_literals
a_departure_from_a_sector = refl

an_airport_for_a_sector : scenario_of (with_more (codes "cap,sector,ORIG,0,1,2\n"))
    ≡ Err (fault_at 11 3 cause.UnknownName)
unfolding text_on_literals
an_airport_for_a_sector = refl

a_change_after_the_day : scenario_of (with_more (codes "cap,arr,ORIG,0,8,2\n"))
    ≡ Err (fault_at 11 5 cause.OutOfRange)
unfolding text_on_literals
a_change_after_the_day = refl

a_change_back_in_time : scenario_of (with_more (codes "cap,arr,ORIG,3,2,2\n"))
    ≡ Err (fault_at 11 5 cause.BackInTime)
unfolding text_on_literals
a_change_back_in_time = refl

a_change_of_no_place : scenario_of (with_more (codes "cap,arr,T,0,1,2\n"))
    ≡ Err (fault_at 11 3 cause.UnknownName)
unfolding text_on_literals
a_change_of_no_place = refl

a_change_too_great : scenario_of (with_more (codes "cap,arr,ORIG,0,1,1000001\n"))
    ≡ Err (fault_at 11 6 cause.OutOfRange)
unfolding text_on_literals
a_change_too_great = refl

a_change_without_value : scenario_of (with_more (codes "cap,arr,ORIG,0,1\n"))
    ≡ Err (fault_at 11 6 cause.MissingField)
unfolding text_on_literals
a_change_without_value = refl

of_another_kind : scenario_of (with_more (codes "route,F1\n"))
    ≡ Err (fault_at 11 1 cause.UnknownKind)
unfolding text_on_literals
of_another_kind = refl

-- a connection, tables, changed capacities of which a later change wins, and notes
abbrev more_kinds : List ℕ
more_kinds = codes "flight,G,DEST,ORIG,3,5,1,1,1,2\nleg,G,DEST,ORIG,2\nconnect,F1,G,2\ntable,TT,0,-5\ntable,CC,0,2\ncost,G,TT,CC\ncap,dep,ORIG,1,2,0\ncap,dep,ORIG,2,2,7\nnote,anything,\"at, all\"\nnote\n"

of_all_kinds : IsOkAnd (scenario_of (with_more more_kinds)) (λ parts.
    (parts.connections ≡ record { first = 0; second = 2; turnaround = 2 } ∷ [])
    × (parts.tables ≡ record {
      name = codes "TT";
      values = pos 0 ∷ neg_ℤ (pos 5) ∷ [];
    } ∷ record {
      name = codes "CC";
      values = pos 0 ∷ pos 2 ∷ [];
    } ∷ [])
    × (map (λ flight. flight.cost) parts.flights ≡ Linear 1 2 ∷ Linear 1 2 ∷ Tables 0 1 ∷ [])
    × (map (λ place. place.first) parts.places ≡ (1 ∷ 0 ∷ 7 ∷ 1 ∷ 1 ∷ 1 ∷ 1 ∷ 1 ∷ [])
    ∷ replicate 8 9 ∷ replicate 8 9 ∷ []))
unfolding text_on_literals
of_all_kinds = (refl, refl, refl, refl)
