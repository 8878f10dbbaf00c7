-- The definition, record by record.
use Rattle.std.proofs.Common.{◌≡◌, ℕ, ◌+◌, List, [], ◌∷◌, length, Option, Some, None, Result, Ok, Err, refl, sym, ◌∙◌}
use Rattle.flow_types.specs.declared.fault.Fault.{Fault}
use Rattle.flow_types.specs.declared.parts.Parts.{Parts}
use Rattle.flow_types.specs.declared.plan.Stop.{Stop}
use Rattle.std.proofs.lemmas.List.{length-map, length-replicate, length-set}
use Rattle.text_records.specs.Fields.{field_in}
use Rattle.text_records.specs.Errors.{refusal_of, fault_of, in_record, Refuses, Stops}
use Rattle.text_records.specs.Rows.{Fields}
use Rattle.text_records.specs.declared.error.FieldFault.{FieldFault}
use Rattle.text_records.specs.declared.error.Refusal.{Refusal}
use Rattle.text_records.specs.declared.error.Refusal.TheVariants as refusal
use Rattle.text_records.specs.declared.error.RecordError.{RecordError}
use Rattle.text_records.specs.declared.error.RecordError.TheVariants as error
use Rattle.text_records.proofs.StepFacts.{bound}
use Rattle.plan_text.specs.Kinds.{kind_of}
use Rattle.plan_text.specs.Plans.{none_read, plan_from, record_step, records_step, step_of, trip_step, trips_of, with_trip}
use Rattle.plan_text.specs.Trips.{TripsRead, trip_of}
use Rattle.plan_text.specs.declared.kind.Kind.{Kind}
use Rattle.plan_text.specs.declared.kind.Kind.TheVariants as kind

module _ (parts : Parts) (at : ℕ) (trips : TripsRead) (left : List Fields)
    (total : Result TripsRead Fault) where
  pub next_record : (next : TripsRead) (rest : List Fields) (fields : Fields) → left ≡ fields ∷ rest
      → record_step parts trips fields ≡ Ok next
      → records_step parts at trips left ≡ total → records_step parts (at + 1) next rest ≡ total
  unfolding records_step
  next_record next rest fields here is so_far =
      let step : records_step parts at trips left ≡ records_step parts (at + 1) next rest =
      rw (here, is) refl in
      sym step ∙ so_far

  pub refused_record : (e : RecordError) (rest : List Fields) (fields : Fields)
      → left ≡ fields ∷ rest → Stops e (record_step parts trips fields)
      → records_step parts at trips left ≡ total → Refuses (refusal_of at e) total
  unfolding records_step
  refused_record error.OutOfMemory rest fields here stops so_far = tt
  refused_record (error.Field fault) rest fields here stops so_far =
      let step : records_step parts at trips left ≡ Err (fault_of at fault) =
      rw (here, stops) refl in
      sym so_far ∙ step

  pub no_record : left ≡ [] → records_step parts at trips left ≡ total → total ≡ Ok trips
  unfolding records_step
  no_record here so_far =
      let step : records_step parts at trips left ≡ Ok trips = rw here refl in
      sym so_far ∙ step

module _ (parts : Parts) (rows : List Fields) where
  pub plan_is : (trips : TripsRead) → records_step parts 1 (none_read parts.flights) rows ≡ Ok trips
      → plan_from parts rows ≡ Ok (trips_of trips)
  unfolding plan_from
  plan_is trips is = rw is refl

  pub plan_refused : (e : Refusal) → Refuses e (records_step parts 1 (none_read parts.flights) rows)
      → Refuses e (plan_from parts rows)
  unfolding plan_from
  plan_refused refusal.OutOfMemory refuses = tt
  plan_refused (refusal.Text fault) refuses = rw refuses refl

in_record_ok : (at : ℕ) (r : Result TripsRead FieldFault) (next : TripsRead)
    → in_record at r ≡ Ok next → r ≡ Ok next
in_record_ok at (Ok x) next e = cc
in_record_ok at (Err fault) next e = absurd cc

module _ (parts : Parts) where
  same_length : (trips next : TripsRead) (fields : Fields) (kind : Option Kind)
      → step_of parts trips fields kind ≡ Ok next → length next ≡ length trips
  unfolding trip_step
  same_length trips next fields None e = absurd cc
  same_length trips next fields (Some kind.Trip) e =
      let found = bound (trip_of parts trips fields) _ next e in
      let is : with_trip trips found.0 ≡ next = cc in
      rw (← is) (length-set trips found.0.0 (Some found.0.1))
  same_length trips next fields (Some kind.PassedOver) e = let is : trips ≡ next = cc in rw is refl

  record_length : (trips next : TripsRead) (fields : Fields)
      → record_step parts trips fields ≡ Ok next → length next ≡ length trips
  unfolding record_step
  record_length trips next fields e =
      let word = bound (field_in fields 1) _ next e in
      same_length trips next fields (kind_of word.0) word.2

  as_many : (at : ℕ) (trips next : TripsRead) (rows : List Fields)
      → records_step parts at trips rows ≡ Ok next → length next ≡ length trips
  unfolding records_step
  as_many at trips next [] e = let is : trips ≡ next = cc in rw is refl
  as_many at trips next (fields ∷ rows) e =
      let middle = bound (in_record at (record_step parts trips fields)) _ next e in
      as_many (at + 1) middle.0 next rows middle.2
      ∙ record_length trips middle.0 fields (in_record_ok at _ _ middle.1)

  pub one_a_flight : (rows : List Fields) (plan : List (List Stop)) → plan_from parts rows ≡ Ok plan
      → length plan ≡ length parts.flights
  unfolding plan_from
  one_a_flight rows plan e =
      let trips = bound (records_step parts 1 (none_read parts.flights) rows) _ plan e in
      let is : trips_of trips.0 ≡ plan = cc in
      rw (← is) (length-map trips.0 _ ∙ as_many 1 (none_read parts.flights) trips.0 rows trips.1
      ∙ length-replicate (length parts.flights) _)
