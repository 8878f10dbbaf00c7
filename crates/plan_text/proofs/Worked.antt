-- Worked texts: what the definition makes of them, computed.
use Rattle.std.proofs.Common.{◌≡◌, ℕ, zero, suc, List, [], ◌∷◌, ◌++◌, Result, Ok, Err, refl}
use Rattle.std.specs.Prelude.{codes, replicate}
use Rattle.std.specs.Fmt.{digits}
use Rattle.csv.proofs.OnLiterals.{csv_on_literals}
use Rattle.flow_types.specs.declared.fault.Cause.TheVariants as cause
use Rattle.flow_types.specs.declared.fault.Fault.{Fault}
use Rattle.flow_types.specs.declared.plan.Stop.{Stop}
use Rattle.text_records.specs.Fields.{name_in, number_in}
use Rattle.text_records.specs.Errors.{fault_at}
use Rattle.worked_days.specs.Days.{stop_at, there, trip_at, two_flights}
use Rattle.plan_text.specs.Lines.{trip_text}
use Rattle.plan_text.specs.Plans.{plan_from, plan_of, record_step, records_step, trip_step}
use Rattle.plan_text.specs.Trips.{flight_in, stop_in, stops_from, trip_of}

-- what has to be opened to compute a text
unfoldable text_on_literals : Unit {0}
unfolding csv_on_literals name_in number_in flight_in stop_in stops_from trip_of trip_step
    record_step records_step plan_from
text_on_literals = tt

-- so many stops in the sector
abbrev pairs : ℕ → List ℕ
pairs zero = []
pairs (suc n) = codes ",S,1" ++ pairs n

-- the plan that a text tells of the day of the flights F1 and F2, of 8 periods
abbrev read : List ℕ → Result (List (List Stop)) Fault
read text = plan_of (two_flights 1 9 9) text

both_trips : read (codes
    "status,optimal\ncost,0\nbound,0\nnodes,1\ntrip,F1,ORIG,0,S,0,DEST,2\ntrip,F2,ORIG,1,S,1,DEST,7\n") ≡ Ok (trip_at 0 2 ∷ trip_at 1 7 ∷ [])
unfolding text_on_literals
both_trips = refl

in_the_order_of_the_flights : read
    (codes "trip,F2,ORIG,1,S,1,DEST,7\n\nnote,\"a,b\",c\ntrip,F1,ORIG,0,S,0,DEST,2")
    ≡ Ok (trip_at 0 2 ∷ trip_at 1 7 ∷ [])
unfolding text_on_literals
in_the_order_of_the_flights = refl

no_record : read (codes "\n\n") ≡ Ok ([] ∷ [] ∷ [])
unfolding text_on_literals
no_record = refl

an_empty_trip : read (codes "trip,F1\n") ≡ Ok ([] ∷ [] ∷ [])
unfolding text_on_literals
an_empty_trip = refl

stops_in_any_order : read (codes "trip,F2,DEST,007,DEST,0\n")
    ≡ Ok ([] ∷ (stop_at 2 7 ∷ stop_at 2 0 ∷ []) ∷ [])
unfolding text_on_literals
stops_in_any_order = refl

another_kind : read (codes "note\ntrips,F1\n") ≡ Err (fault_at 2 1 cause.UnknownKind)
unfolding text_on_literals
another_kind = refl

an_empty_word : read (codes ",\n") ≡ Err (fault_at 1 1 cause.UnknownKind)
unfolding text_on_literals
an_empty_word = refl

no_flight : read (codes "trip\n") ≡ Err (fault_at 1 2 cause.MissingField)
unfolding text_on_literals
no_flight = refl

a_flight_that_is_no_name : read (codes "trip,F 1\n") ≡ Err (fault_at 1 2 cause.BadName)
unfolding text_on_literals
a_flight_that_is_no_name = refl

an_empty_flight : read (codes "trip,\n") ≡ Err (fault_at 1 2 cause.BadName)
unfolding text_on_literals
an_empty_flight = refl

an_unknown_flight : read (codes "trip,F3\n") ≡ Err (fault_at 1 2 cause.UnknownName)
unfolding text_on_literals
an_unknown_flight = refl

a_place_for_a_flight : read (codes "trip,ORIG\n") ≡ Err (fault_at 1 2 cause.UnknownName)
unfolding text_on_literals
a_place_for_a_flight = refl

a_second_trip : read (codes "trip,F1,ORIG,0\ntrip,F2\ntrip,F1,ORIG,T\n")
    ≡ Err (fault_at 3 2 cause.Repeated)
unfolding text_on_literals
a_second_trip = refl

a_second_empty_trip : read (codes "trip,F1\ntrip,F1\n") ≡ Err (fault_at 2 2 cause.Repeated)
unfolding text_on_literals
a_second_empty_trip = refl

a_place_that_is_no_name : read (codes "trip,F1,S!,0\n") ≡ Err (fault_at 1 3 cause.BadName)
unfolding text_on_literals
a_place_that_is_no_name = refl

an_empty_place : read (codes "trip,F1,\n") ≡ Err (fault_at 1 3 cause.BadName)
unfolding text_on_literals
an_empty_place = refl

an_unknown_place : read (codes "trip,F1,T,0\n") ≡ Err (fault_at 1 3 cause.UnknownName)
unfolding text_on_literals
an_unknown_place = refl

a_flight_for_a_place : read (codes "trip,F1,ORIG,0,F1,0\n") ≡ Err (fault_at 1 5 cause.UnknownName)
unfolding text_on_literals
a_flight_for_a_place = refl

a_place_without_period : read (codes "trip,F1,ORIG,0,S\n") ≡ Err (fault_at 1 6 cause.MissingField)
unfolding text_on_literals
a_place_without_period = refl

an_unknown_place_without_period : read (codes "trip,F1,T\n") ≡ Err (fault_at 1 3 cause.UnknownName)
unfolding text_on_literals
an_unknown_place_without_period = refl

a_signed_period : read (codes "trip,F1,ORIG,-1\n") ≡ Err (fault_at 1 4 cause.BadNumber)
unfolding text_on_literals
a_signed_period = refl

an_empty_period : read (codes "trip,F1,ORIG,,S!,0\n") ≡ Err (fault_at 1 4 cause.BadNumber)
unfolding text_on_literals
an_empty_period = refl

a_period_after_the_day : read (codes "trip,F1,ORIG,7,S,8\n") ≡ Err (fault_at 1 6 cause.OutOfRange)
unfolding text_on_literals
a_period_after_the_day = refl

the_first_record_first : read (codes "trip,F1,ORIG,8\ncosts,1\n")
    ≡ Err (fault_at 1 4 cause.OutOfRange)
unfolding text_on_literals
the_first_record_first = refl

as_many_stops_as_there_may_be : read (codes "trip,F1" ++ (pairs 32 ++ codes "\n"))
    ≡ Ok (replicate 32 (stop_at 1 1) ∷ [] ∷ [])
unfolding text_on_literals
as_many_stops_as_there_may_be = refl

a_field_too_many : read (codes "trip,F1" ++ (pairs 32 ++ codes ",S!\n"))
    ≡ Err (fault_at 1 67 cause.ExtraField)
unfolding text_on_literals
a_field_too_many = refl

a_bad_period_before_a_field_too_many : read (codes "trip,F1" ++ (pairs 31 ++ codes ",S,9,S!\n"))
    ≡ Err (fault_at 1 66 cause.OutOfRange)
unfolding text_on_literals
a_bad_period_before_a_field_too_many = refl

a_line : trip_text (two_flights 1 9 9).places there (trip_at 0 2)
    ≡ codes "trip,F1,ORIG,0,S,0,DEST,2\n"
unfolding digits
a_line = refl

an_empty_line : trip_text (two_flights 1 9 9).places there [] ≡ codes "trip,F1\n"
an_empty_line = refl
