-- The moments at which the periods of a day begin, and how they are spelled.
use Rattle.std.specs.Prelude.{◌≡◌, ℕ, ◌+◌, ◌*◌, ◌/◌, ◌%◌, ◌<◌, List, [], ◌∷◌, length, slice_index_or, unsigned_abs, pos, ◌+ℤ◌}
use Rattle.flow_types.specs.declared.day.Day.{Day}
use Rattle.jiff.specs.Types.{DateTime}
use Rattle.jiff.specs.Words.{civil_nanos, IsHms, IsYmd}

-- the moment at which the day begins
pub record IsBeginning (day : Day) (at : DateTime) : Type 0 where
  pub date : IsYmd (pos day.year) (pos day.month) (pos day.day) at.date
  pub time : IsHms (pos day.hour) (pos day.minute) (pos 0) (pos 0) at.time

-- the moment at which a period begins: so many minutes after the day does
pub record IsMomentAt (day : Day) (period : ℕ) (at : DateTime) : Type 0 where
  pub beginning : DateTime
  pub begins : IsBeginning day beginning
  pub later : civil_nanos at
      ≡ civil_nanos beginning +ℤ pos (60 * period * day.minutes * 1_000_000_000)

-- the last digit of a number, as a byte
abbrev pub digit : ℕ → ℕ
digit n = 48 + n % 10

-- a moment as `YYYY-MM-DDTHH:MM`
unfoldable pub moment_text : DateTime → List ℕ
moment_text at =
    let year = unsigned_abs at.date.year in
    digit (year / 1000) ∷ digit (year / 100) ∷ digit (year / 10) ∷ digit year ∷ 45
    ∷ digit (at.date.month / 10) ∷ digit at.date.month ∷ 45
    ∷ digit (at.date.day / 10) ∷ digit at.date.day ∷ 84
    ∷ digit (at.time.hour / 10) ∷ digit at.time.hour ∷ 58
    ∷ digit (at.time.minute / 10) ∷ digit at.time.minute ∷ []

-- the text spells the moment at which the period begins
pub record IsMoment (day : Day) (period : ℕ) (text : List ℕ) : Type 0 where
  pub at : DateTime
  pub moment : IsMomentAt day period at
  pub spelled : text ≡ moment_text at

-- the texts spell the moments at which the day's periods begin, one for each
pub record AreMoments (day : Day) (texts : List (List ℕ)) : Type 0 where
  pub count : length texts ≡ day.periods
  pub each : (t : ℕ) → t < day.periods → IsMoment day t (slice_index_or texts t [])
