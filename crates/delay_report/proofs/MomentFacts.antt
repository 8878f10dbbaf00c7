-- Each period of a day begins at a moment that jiff has; and what is known of a list of the first ones.
use Rattle.std.proofs.Common.{◌≡◌, ℕ, ◌*◌, ◌<◌, ◌≤◌, List, [], pos, ◌+ℤ◌, ◌<ℤ◌, ◌≤ℤ◌, inl, refl, subst, arith, rules, mul-le-mul}
use Rattle.exact_sums.specs.Lists.{AreEach}
use Rattle.flow_types.specs.declared.day.Day.{Day}
use Rattle.flow_types.specs.Valid.{IsDay}
use Rattle.jiff.specs.Types.{Date, DateTime}
use Rattle.jiff.specs.Words.{civil_nanos, epoch_day, IsCivilNanos}
use Rattle.jiff.proofs.Family.{civil_nanos-parts, civil_nanos_range, days_from_civil-day, days_from_civil-max, days_from_civil-next_month, epoch_day-lt, time_nanos_bound}
use Rattle.jiff.proofs.SpanFacts.{signed_arith}
use Rattle.delay_report.specs.Moments.{AreMoments, IsBeginning, IsMoment}

november : Date
november = record {
  year = pos 9999;
  month = 11;
  day = 1;
  year_in = search rules;
  month_in = search rules;
  day_in = search rules;
}

-- 1 November 9999, by the number of 31 December
november_is : epoch_day november ≡ pos 2_932_836
unfolding november
november_is =
    let december = days_from_civil-day (pos 9999) 12 1 31 (omega arith) (omega arith) in
    let next = days_from_civil-next_month (pos 9999) 11 30 (omega arith) refl in
    let within = days_from_civil-day (pos 9999) 11 1 30 (omega arith) (omega arith) in
    omega (arith, signed_arith, december, next, within, days_from_civil-max)

november_year : november.year ≡ pos 9999
unfolding november
november_year = refl

-- it comes after each day of the years before
before_november : (d : Date) → d.year ≤ℤ pos 9998 → epoch_day d <ℤ pos 2_932_836
before_november d early =
    let earlier = epoch_day-lt d november (inl (omega (arith, signed_arith, november_year))) in
    subst (λ number. epoch_day d <ℤ number) november_is earlier

-- at most 511 periods of two hours each
few_nanos : (period minutes : ℕ) → period ≤ 511 → minutes ≤ 120
    → 60 * period * minutes * 1_000_000_000 ≤ 3_679_200_000_000_000
few_nanos period minutes few short =
    let product : period * minutes ≤ 511 * 120 = mul-le-mul few short in
    omega (arith, product)

-- the moment so many nanoseconds after the day's beginning is one that jiff has
pub fits_later : (day : Day) (beginning : DateTime) (period nanos : ℕ) → IsDay day
    → IsBeginning day beginning → period < day.periods
    → nanos ≡ 60 * period * day.minutes * 1_000_000_000
    → IsCivilNanos (civil_nanos beginning +ℤ pos nanos)
fits_later day beginning period nanos valid begins within is =
    let few = few_nanos period day.minutes (omega (arith, valid.periods_to)) valid.minutes_to in
    let early : beginning.date.year ≤ℤ pos 9998 =
    omega (arith, signed_arith, valid.year_to, begins.date.0) in
    let day_number = before_november beginning.date early in
    let parts = civil_nanos-parts beginning in
    let range = civil_nanos_range beginning in
    omega (arith, signed_arith, few, is, day_number, parts, range, time_nanos_bound beginning.time)

-- the texts spell the moments at which the first periods begin
abbrev pub AreFirst : Day → ℕ → List (List ℕ) → Type 0
AreFirst day = AreEach (λ t text. IsMoment day t text) []

-- as many as the day has periods are all that it needs
pub all_moments : (day : Day) (texts : List (List ℕ)) → AreFirst day day.periods texts
    → AreMoments day texts
all_moments day texts first = record { count = first.long; each = first.each }
