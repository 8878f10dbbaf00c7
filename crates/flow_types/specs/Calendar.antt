-- The Gregorian calendar, carried on to every year.
use Rattle.std.specs.Prelude.{ℕ, ◌%◌, ◌==◌, ◌≤◌, Bool, ◌&&◌, ◌||◌, not, if◌then◌else◌}

-- every fourth year, but of the hundreds only every fourth
abbrev pub is_leap_year : ℕ → Bool
is_leap_year year = (year % 4 == 0) && (not (year % 100 == 0) || (year % 400 == 0))

-- how many days a month has
abbrev pub days_in_month : ℕ → ℕ → ℕ
days_in_month year month =
    if month == 2 then (if is_leap_year year then 29 else 28)
    else (if (month == 4) || (month == 6) || (month == 9) || (month == 11) then 30 else 31)

-- the numbers are a date
pub record IsDate (year month day : ℕ) : Type 0 where
  pub month_from : 1 ≤ month
  pub month_to : month ≤ 12
  pub day_from : 1 ≤ day
  pub day_to : day ≤ days_in_month year month
