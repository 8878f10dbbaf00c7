-- The definition, record by record.
use Rattle.std.proofs.Common.{◌≡◌, ℕ, ◌+◌, List, [], ◌∷◌, Result, Ok, Err, refl, sym, ◌∙◌}
use Rattle.flow_types.specs.declared.fault.Cause.TheVariants.{NoDay}
use Rattle.flow_types.specs.declared.fault.Fault.{Fault}
use Rattle.text_records.specs.Errors.{refusal_of, fault_at, fault_of, Refuses, Stops}
use Rattle.text_records.specs.Rows.{Fields}
use Rattle.text_records.specs.declared.error.FieldFault.{FieldFault}
use Rattle.text_records.specs.declared.error.Refusal.{Refusal}
use Rattle.text_records.specs.declared.error.Refusal.TheVariants as refusal
use Rattle.text_records.specs.declared.error.RecordError.{RecordError}
use Rattle.text_records.specs.declared.error.RecordError.TheVariants as error
use Rattle.scenario_reader.specs.Finish.{finished}
use Rattle.scenario_reader.specs.Reading.{first_step, record_step, records_step, scenario_from}
use Rattle.scenario_reader.specs.DraftParts.{DraftParts}

pub next_record : (at : ℕ) (draft next : DraftParts) (left rest : List Fields) (fields : Fields)
    (total : Result DraftParts Fault)
    → left ≡ fields ∷ rest → record_step draft at fields ≡ Ok next
    → records_step at draft left ≡ total → records_step (at + 1) next rest ≡ total
unfolding records_step
next_record at draft next left rest fields total here is so_far =
    let step : records_step at draft left ≡ records_step (at + 1) next rest = rw (here, is) refl in
    sym step ∙ so_far

pub refused_record : (e : RecordError) (at : ℕ) (draft : DraftParts) (left rest : List Fields)
    (fields : Fields) (total : Result DraftParts Fault)
    → left ≡ fields ∷ rest → Stops e (record_step draft at fields)
    → records_step at draft left ≡ total → Refuses (refusal_of at e) total
unfolding records_step
refused_record error.OutOfMemory at draft left rest fields total here stops so_far = tt
refused_record (error.Field fault) at draft left rest fields total here stops so_far =
    let step : records_step at draft left ≡ Err (fault_of at fault) = rw (here, stops) refl in
    sym so_far ∙ step

pub no_record : (at : ℕ) (draft : DraftParts) (left : List Fields) (total : Result DraftParts Fault)
    → left ≡ [] → records_step at draft left ≡ total → total ≡ Ok draft
unfolding records_step
no_record at draft left total here so_far =
    let step : records_step at draft left ≡ Ok draft = rw here refl in
    sym so_far ∙ step

pub no_first : (rows : List Fields) → rows ≡ [] → scenario_from rows ≡ Err (fault_at 1 1 NoDay)
unfolding scenario_from
no_first rows none = rw none refl

pub first_refused : (fault : FieldFault) (rows rest : List Fields) (fields : Fields)
    → rows ≡ fields ∷ rest → first_step fields ≡ Err fault
    → scenario_from rows ≡ Err (fault_of 1 fault)
unfolding scenario_from
first_refused fault rows rest fields here is = rw (here, is) refl

-- the records after the first, and what they come to
pub rest_is : (rows rest : List Fields) (fields : Fields) (first draft : DraftParts)
    → rows ≡ fields ∷ rest → first_step fields ≡ Ok first
    → records_step 2 first rest ≡ Ok draft → scenario_from rows ≡ finished draft
unfolding scenario_from
rest_is rows rest fields first draft here is steps = rw (here, is, steps) refl

pub rest_refused : (e : Refusal) (rows rest : List Fields) (fields : Fields) (first : DraftParts)
    → rows ≡ fields ∷ rest → first_step fields ≡ Ok first
    → Refuses e (records_step 2 first rest) → Refuses e (scenario_from rows)
unfolding scenario_from
rest_refused refusal.OutOfMemory rows rest fields first here is refuses = tt
rest_refused (refusal.Text fault) rows rest fields first here is refuses =
    rw (here, is, refuses) refl
