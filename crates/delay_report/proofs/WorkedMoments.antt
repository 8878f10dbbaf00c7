-- A period that begins in the year after its day's.
use Rattle.std.specs.Prelude.{codes}
use Rattle.std.proofs.Common.{◌≡◌, pos, ◌+ℤ◌, refl, arith, rules}
use Rattle.flow_types.specs.declared.day.Day.{Day}
use Rattle.jiff.specs.Types.{DateTime}
use Rattle.jiff.specs.Words.{civil_nanos}
use Rattle.jiff.proofs.Family.{civil_nanos-parts, days_from_civil-next_year}
use Rattle.jiff.proofs.SpanFacts.{signed_arith}
use Rattle.delay_report.specs.Moments.{moment_text, IsMoment}

abbrev last_of_2011 : Day
last_of_2011 =
    record { year = 2011; month = 12; day = 31; hour = 23; minute = 50; minutes = 15; periods = 96 }

beginning : DateTime
beginning = record {
  date = record {
    year = pos 2011;
    month = 12;
    day = 31;
    year_in = search rules;
    month_in = search rules;
    day_in = search rules;
  };
  time = record {
    hour = 23;
    minute = 50;
    second = 0;
    subsec_nanosecond = 0;
    hour_in = search rules;
    minute_in = search rules;
    second_in = search rules;
    subsec_in = search rules;
  };
}

in_2012 : DateTime
in_2012 = record {
  date = record {
    year = pos 2012;
    month = 1;
    day = 1;
    year_in = search rules;
    month_in = search rules;
    day_in = search rules;
  };
  time = record {
    hour = 0;
    minute = 35;
    second = 0;
    subsec_nanosecond = 0;
    hour_in = search rules;
    minute_in = search rules;
    second_in = search rules;
    subsec_in = search rules;
  };
}

later : civil_nanos in_2012 ≡ civil_nanos beginning +ℤ pos 2_700_000_000_000
unfolding in_2012 beginning
later =
    let new_year = days_from_civil-next_year (pos 2011) (pos 2012) (search rules) refl in
    omega (arith, signed_arith, new_year, civil_nanos-parts beginning, civil_nanos-parts in_2012)

fourth_period : IsMoment last_of_2011 3 (codes "2012-01-01T00:35")
unfolding moment_text in_2012 beginning
fourth_period = record {
  at = in_2012;
  moment = record {
    beginning = beginning;
    begins = record { date = (refl, refl, refl); time = (refl, refl, refl, refl) };
    later = later;
  };
  spelled = refl;
}
