-- The records `table` and `cost`.
use Rattle.std.specs.Prelude.{ℕ, ◌+◌, ◌==◌, Bool, true, false, List, [], ◌∷◌, drop, Option, Some, None, Result, Ok, Err, nat_le, nat_lt, slice_get, if◌then◌else◌, ℤ, pos, neg_ℤ}
use Rattle.flow_types.specs.declared.fault.Cause.TheVariants.{BadNumber, ExtraField, OutOfRange, Repeated, ShortTable, UnknownName}
use Rattle.flow_types.specs.declared.flight.Cost.{Cost}
use Rattle.flow_types.specs.declared.flight.Cost.TheVariants.{Linear, Tables}
use Rattle.flow_types.specs.declared.flight.CostTable.{CostTable}
use Rattle.flow_types.specs.Valid.{value_count}
use Rattle.flow_types.specs.Words.{number_of}
use Rattle.text_records.specs.Fields.{ends_after, field_in}
use Rattle.text_records.specs.Errors.{◌>>=◌, fault_in}
use Rattle.text_records.specs.Rows.{Fields}
use Rattle.text_records.specs.declared.error.FieldFault.{FieldFault}
use Rattle.scenario_reader.specs.Change.{changed_at}
use Rattle.text_records.specs.Names.{known_in, new_name}
use Rattle.scenario_reader.specs.DraftParts.{flight_names, table_names}
use Rattle.scenario_reader.specs.declared.flight_draft.FlightDraft.{FlightDraft}
use Rattle.scenario_reader.specs.declared.tables.Pricing.{Pricing}
use Rattle.flow_types.specs.Limits.{most_tables, most_value, most_values}

-- a number within 1,000,000,000, with its sign
abbrev pub signed : Bool → ℕ → ℤ
signed true n = neg_ℤ (pos n)
signed false n = pos n

abbrev pub value_at : ℕ → Bool → Option ℕ → Result ℤ FieldFault
value_at number negative None = Err (fault_in number BadNumber)
value_at number negative (Some n) =
    if nat_le n most_value then Ok (signed negative n) else Err (fault_in number OutOfRange)

-- a number, which may have one `-` in front
abbrev pub value_of : ℕ → List ℕ → Result ℤ FieldFault
value_of number [] = Err (fault_in number BadNumber)
value_of number (byte ∷ bytes) =
    if byte == 45
    then value_at number true (number_of bytes)
    else value_at number false (number_of (byte ∷ bytes))

-- the value in the field of this number, of which the last may be the 514th
abbrev pub value_in : ℕ → List ℕ → Result ℤ FieldFault
value_in number bytes =
    if nat_lt (most_values + 2) number
    then Err (fault_in number ExtraField)
    else value_of number bytes

-- the values in the fields from the one of this number on
unfoldable pub values_from : ℕ → List (List ℕ) → Result (List ℤ) FieldFault
values_from number [] = Ok []
values_from number (bytes ∷ rest) = do
  value ← value_in number bytes
  values ← values_from (number + 1) rest
  Ok (value ∷ values)

-- a new name, and one value or more
unfoldable pub table_of : List (List ℕ) → Fields → Result CostTable FieldFault
table_of names fields = do
  name ← new_name most_tables names fields
  first ← field_in fields 3
  values ← values_from 3 (drop 2 fields)
  Ok (record { name = name; values = values })

-- a flight that has no tables yet, with its position
abbrev pub has_tables : Cost → Bool
has_tables (Linear on_ground airborne) = false
has_tables (Tables total credit) = true

abbrev pub untabled_at : ℕ → Option FlightDraft → Result (ℕ × FlightDraft) FieldFault
untabled_at k None = Err (fault_in 2 UnknownName)
untabled_at k (Some flight) =
    if has_tables flight.cost then Err (fault_in 2 Repeated) else Ok (k, flight)

unfoldable pub untabled_in : List FlightDraft → Fields → Result (ℕ × FlightDraft) FieldFault
untabled_in flights fields = do
  k ← known_in 2 (flight_names flights) fields
  untabled_at k (slice_get flights k)

-- a table with so many values at the least
unfoldable pub table_in : ℕ → ℕ → List CostTable → Fields → Result ℕ FieldFault
table_in number least tables fields = do
  k ← known_in number (table_names tables) fields
  if nat_le least (value_count (slice_get tables k)) then Ok k else Err (fault_in number ShortTable)

-- the tables of a flight, which is named by its position
unfoldable pub pricing_of : List FlightDraft → List CostTable → Fields → Result Pricing FieldFault
pricing_of flights tables fields = do
  found ← untabled_in flights fields
  total ← table_in 3 (found.1.hours.md + 1) tables fields
  credit ← table_in 4 (found.1.hours.mg + 1) tables fields
  ended ← ends_after fields 4
  Ok (record { flight = found.0; total = total; credit = credit })

-- the flights, the one at this position with its tables
abbrev pub with_cost : Cost → FlightDraft → FlightDraft
with_cost cost flight = record flight { cost = cost }

abbrev pub with_cost_at : List FlightDraft → ℕ → Cost → List FlightDraft
with_cost_at flights k cost = changed_at (with_cost cost) flights k
