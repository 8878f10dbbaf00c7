-- The fields of a record, by their numbers from 1.
use Rattle.std.specs.Prelude.{ℕ, ◌+◌, ◌-◌, ◌&&◌, nat_le, nat_lt, List, length, Option, Some, None, Result, Ok, Err, slice_get, if◌then◌else◌}
use Rattle.flow_types.specs.declared.fault.Cause.TheVariants.{MissingField, ExtraField, BadName, BadNumber, OutOfRange}
use Rattle.flow_types.specs.Words.{is_name, number_of}
use Rattle.text_records.specs.Errors.{◌>>=◌, fault_in}
use Rattle.text_records.specs.Rows.{Fields}
use Rattle.text_records.specs.declared.error.FieldFault.{FieldFault}

-- the field, if it is there
abbrev pub present_at : ℕ → Option (List ℕ) → Result (List ℕ) FieldFault
present_at number None = Err (fault_in number MissingField)
present_at number (Some bytes) = Ok bytes

abbrev pub field_in : Fields → ℕ → Result (List ℕ) FieldFault
field_in fields number = present_at number (slice_get fields (number - 1))

-- the record has no field past the last
abbrev pub ends_after : Fields → ℕ → Result (Unit {0}) FieldFault
ends_after fields last =
    if nat_lt last (length fields) then Err (fault_in (last + 1) ExtraField) else Ok tt

-- the field, which has to be a name
unfoldable pub name_in : Fields → ℕ → Result (List ℕ) FieldFault
name_in fields number = do
  bytes ← field_in fields number
  if is_name bytes then Ok bytes else Err (fault_in number BadName)

-- the number, if it is one and within its limits
abbrev pub within_limits : ℕ → ℕ → ℕ → Option ℕ → Result ℕ FieldFault
within_limits number low high None = Err (fault_in number BadNumber)
within_limits number low high (Some value) =
    if nat_le low value && nat_le value high then Ok value else Err (fault_in number OutOfRange)

-- the number in the field, which has to be within these limits
unfoldable pub number_in : Fields → ℕ → ℕ → ℕ → Result ℕ FieldFault
number_in fields number low high = do
  bytes ← field_in fields number
  within_limits number low high (number_of bytes)
