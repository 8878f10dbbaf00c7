-- A date and time, `YYYY-MM-DDTHH:MM`.
use Rattle.std.specs.Prelude.{ℕ, ◌==◌, ◌&&◌, Bool, List, length, Option, Some, None, Result, Ok, Err, nat_le, slice_index, slice_range, if◌then◌else◌}
use Rattle.flow_types.specs.Calendar.{days_in_month}
use Rattle.flow_types.specs.Words.{number_of}
use Rattle.flow_types.specs.declared.fault.Cause.TheVariants.{BadDate}
use Rattle.text_records.specs.Errors.{◌>>=◌, fault_in}
use Rattle.text_records.specs.declared.error.FieldFault.{FieldFault}
use Rattle.scenario_reader.specs.declared.date.Moment.{Moment}
use Rattle.flow_types.specs.Limits.{last_year}

-- the marks between the numbers
abbrev pub has_marks : List ℕ → Bool
has_marks text =
    (length text == 16) && (slice_index text 4 == 45) && (slice_index text 7 == 45)
    && (slice_index text 10 == 84) && (slice_index text 13 == 58)

abbrev pub marked : List ℕ → Result (Unit {0}) FieldFault
marked text = if has_marks text then Ok tt else Err (fault_in 2 BadDate)

-- a number within its limits
abbrev pub within : ℕ → ℕ → Option ℕ → Result ℕ FieldFault
within low high None = Err (fault_in 2 BadDate)
within low high (Some value) =
    if nat_le low value && nat_le value high then Ok value else Err (fault_in 2 BadDate)

-- the number that the bytes between two places spell
abbrev pub part_of : List ℕ → ℕ → ℕ → ℕ → ℕ → Result ℕ FieldFault
part_of text from to low high = within low high (number_of (slice_range text from to))

-- the month has this day
abbrev pub of_calendar : ℕ → ℕ → ℕ → Result (Unit {0}) FieldFault
of_calendar year month day =
    if nat_le day (days_in_month year month) then Ok tt else Err (fault_in 2 BadDate)

unfoldable pub moment_of : List ℕ → Result Moment FieldFault
moment_of text = do
  form ← marked text
  year ← part_of text 0 4 1 last_year
  month ← part_of text 5 7 1 12
  day ← part_of text 8 10 1 31
  hour ← part_of text 11 13 0 23
  minute ← part_of text 14 16 0 59
  real ← of_calendar year month day
  Ok (record { year = year; month = month; day = day; hour = hour; minute = minute })
