-- The record of the day is read as the day.
use Rattle.std.proofs.Common.{◌≡◌, ℕ, ◌/◌, ◌%◌, ◌<◌, ◌≤◌, true, List, [], ◌∷◌, length, Some, Ok, refl, ap, arith}
use Rattle.std.specs.Prelude.{slice_range}
use Rattle.std.specs.Char.{digit_value, is_ascii_digit}
use Rattle.std.specs.Str.{all_ascii_digits}
use Rattle.std.specs.Str.Parse.{digits_value}
use Rattle.std.proofs.lemmas.Bool.{and_from, le-leb}
use Rattle.std.proofs.lemmas.Str.{digit_value_digit}
use Rattle.flow_types.specs.Calendar.{days_in_month}
use Rattle.flow_types.specs.Limits.{last_year, most_minutes, most_periods}
use Rattle.flow_types.specs.Valid.{IsDay}
use Rattle.flow_types.specs.Words.{number_of}
use Rattle.flow_types.specs.declared.day.Day.{Day}
use Rattle.scenario_reader.specs.Dates.{marked, moment_of, part_of}
use Rattle.scenario_reader.specs.Places.{day_of}
use Rattle.scenario_reader.specs.Reading.{first_step, no_parts}
use Rattle.scenario_maker.specs.Writing.{beginning_text, day_row, digit}
use Rattle.scenario_maker.proofs.StepFacts.{number_between}

one_digit : (n : ℕ) → digit_value (digit n) ≡ n % 10
one_digit n =
    let value = digit_value_digit (digit n) (omega arith, omega arith) in
    omega (arith, value)

digit_is : (n : ℕ) → is_ascii_digit (digit n) ≡ true
digit_is n = rw (le-leb 48 (digit n) (omega arith), le-leb (digit n) 57 (omega arith)) refl

number_from : (bytes : List ℕ) (n : ℕ) → 1 ≤ length bytes → length bytes ≤ 18
    → all_ascii_digits bytes ≡ true → digits_value 10 bytes ≡ n → number_of bytes ≡ Some n
number_from bytes n some few digits value =
    rw (le-leb 1 (length bytes) some, le-leb (length bytes) 18 few, digits) (ap Some value)

two_back : (n : ℕ) → n < 100 → number_of (digit (n / 10) ∷ digit n ∷ []) ≡ Some n
two_back n few =
    number_from (digit (n / 10) ∷ digit n ∷ []) n (omega arith) (omega arith)
    (and_from (is_ascii_digit (digit (n / 10))) (all_ascii_digits (digit n ∷ []))
    (digit_is (n / 10)) (and_from (is_ascii_digit (digit n)) true (digit_is n) refl))
    (omega (arith, one_digit (n / 10), one_digit n, few))

four_back : (n : ℕ) → n < 10000
    → number_of (digit (n / 1000) ∷ digit (n / 100) ∷ digit (n / 10) ∷ digit n ∷ []) ≡ Some n
four_back n few =
    number_from (digit (n / 1000) ∷ digit (n / 100) ∷ digit (n / 10) ∷ digit n ∷ []) n (omega arith)
    (omega arith)
    (and_from (is_ascii_digit (digit (n / 1000)))
    (all_ascii_digits (digit (n / 100) ∷ digit (n / 10) ∷ digit n ∷ [])) (digit_is (n / 1000))
    (and_from (is_ascii_digit (digit (n / 100))) (all_ascii_digits (digit (n / 10) ∷ digit n ∷ []))
    (digit_is (n / 100))
    (and_from (is_ascii_digit (digit (n / 10))) (all_ascii_digits (digit n ∷ []))
    (digit_is (n / 10)) (and_from (is_ascii_digit (digit n)) true (digit_is n) refl))))
    (omega (arith, one_digit (n / 1000), one_digit (n / 100), one_digit (n / 10), one_digit n, few))

part_back : (text : List ℕ) (from to low high n : ℕ)
    → number_of (slice_range text from to) ≡ Some n → low ≤ n → n ≤ high
    → part_of text from to low high ≡ Ok n
part_back text from to low high n spelled least most =
    rw (spelled, le-leb low n least, le-leb n high most) refl

moment_from : (text : List ℕ) (year month day hour minute : ℕ) → marked text ≡ Ok tt
    → part_of text 0 4 1 last_year ≡ Ok year → part_of text 5 7 1 12 ≡ Ok month
    → part_of text 8 10 1 31 ≡ Ok day → part_of text 11 13 0 23 ≡ Ok hour
    → part_of text 14 16 0 59 ≡ Ok minute → day ≤ days_in_month year month
    → moment_of text
    ≡ Ok (record { year = year; month = month; day = day; hour = hour; minute = minute })
unfolding moment_of
moment_from text year month day hour minute form is_year is_month is_day is_hour is_minute real =
    rw (
      form,
      is_year,
      is_month,
      is_day,
      is_hour,
      is_minute,
      le-leb day (days_in_month year month) real,
    ) refl

short_month : (year month : ℕ) → days_in_month year month ≤ 31
short_month year month = grind arith

moment_back : (day : Day) → IsDay day → moment_of (beginning_text day) ≡ Ok (record {
  year = day.year;
  month = day.month;
  day = day.day;
  hour = day.hour;
  minute = day.minute;
})
unfolding beginning_text
moment_back day valid =
    let text = beginning_text day in
    let year = valid.year_to in
    let month = valid.date.month_to in
    let short = short_month day.year day.month in
    let last = valid.date.day_to in
    let most : day.day ≤ 31 = omega (arith, short, last) in
    let hour = valid.hour in
    let minute = valid.minute in
    moment_from text day.year day.month day.day day.hour day.minute refl
    (part_back text 0 4 1 last_year day.year (four_back day.year (omega (arith, year)))
    valid.year_from valid.year_to)
    (part_back text 5 7 1 12 day.month (two_back day.month (omega (arith, month)))
    valid.date.month_from valid.date.month_to)
    (part_back text 8 10 1 31 day.day (two_back day.day (omega (arith, most)))
    valid.date.day_from most)
    (part_back text 11 13 0 23 day.hour (two_back day.hour (omega (arith, hour))) (omega arith)
    valid.hour)
    (part_back text 14 16 0 59 day.minute (two_back day.minute (omega (arith, minute)))
    (omega arith) valid.minute)
    last

day_back : (day : Day) → IsDay day → day_of (day_row day) ≡ Ok day
unfolding day_of
day_back day valid =
    let minutes = valid.minutes_to in
    let periods = valid.periods_to in
    rw (
      moment_back day valid,
      number_between (day_row day) 3 day.minutes 1 most_minutes refl (omega (arith, minutes))
          valid.minutes_from valid.minutes_to,
      number_between (day_row day) 4 day.periods 1 most_periods refl (omega (arith, periods))
          valid.periods_from valid.periods_to,
    ) refl

pub day_read : (day : Day) → IsDay day → first_step (day_row day) ≡ Ok (no_parts day)
unfolding first_step
day_read day valid = rw (day_back day valid) refl
