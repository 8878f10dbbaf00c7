-- What a date and time is.
use Rattle.std.specs.Prelude.{◌≤◌}
use Rattle.flow_types.specs.Calendar.{days_in_month}
use Rattle.scenario_reader.specs.declared.date.Moment.{Moment}
use Rattle.flow_types.specs.Limits.{last_year}

pub record IsMoment (moment : Moment) : Type 0 where
  pub year_from : 1 ≤ moment.year
  pub year_to : moment.year ≤ last_year
  pub month_from : 1 ≤ moment.month
  pub month_to : moment.month ≤ 12
  pub day_from : 1 ≤ moment.day
  pub day_to : moment.day ≤ days_in_month moment.year moment.month
  pub hour : moment.hour ≤ 23
  pub minute : moment.minute ≤ 59
