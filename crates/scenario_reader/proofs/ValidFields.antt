-- What is known of a field that reads.
use Rattle.std.proofs.Common.{◌≡◌, ℕ, ◌-◌, ◌<◌, ◌≤◌, false, ◌&&◌, IsTrue, List, length, Option, Some, None, cond, Ok, arith, refl, subst}
use Rattle.std.specs.Prelude.{is_some, nat_le, nat_lt, slice_range}
use Rattle.std.proofs.lemmas.Bool.{and_parts, leb-false, leb-true, ltb-false}
use Rattle.flow_types.specs.Calendar.{days_in_month}
use Rattle.flow_types.specs.Limits.{last_year}
use Rattle.flow_types.specs.Words.{is_name, number_of}
use Rattle.text_records.specs.Fields.{field_in, name_in, number_in, within_limits}
use Rattle.text_records.specs.Names.{new_name, position_of}
use Rattle.text_records.specs.Rows.{Fields}
use Rattle.scenario_reader.specs.Dates.{marked, moment_of, of_calendar, part_of, within}
use Rattle.scenario_reader.specs.Moments.{IsMoment}
use Rattle.scenario_reader.specs.declared.date.Moment.{Moment}
use Rattle.text_records.proofs.StepFacts.{bound, done, given, holds, ok_is, passed, refused}

pub name_is : (fields : Fields) (number : ℕ) (name : List ℕ) → name_in fields number ≡ Ok name
    → IsTrue (is_name name)
unfolding name_in
name_is fields number name e =
    let bytes = bound (field_in fields number) _ name e in
    holds is_name bytes.0 name _ bytes.2

-- a name that is none of these, with room for it among so many
pub record IsNewName (limit : ℕ) (names : List (List ℕ)) (name : List ℕ) : Type 0 where
  pub named : IsTrue (is_name name)
  pub fresh : position_of name names ≡ None
  pub room : length names < limit

nothing_is : (known : Option ℕ) → is_some known ≡ false → known ≡ None
nothing_is None e = refl
nothing_is (Some k) e = absurd cc

pub new_name_is : (limit : ℕ) (names : List (List ℕ)) (fields : Fields) (name : List ℕ)
    → new_name limit names fields ≡ Ok name → IsNewName limit names name
unfolding new_name
new_name_is limit names fields name e =
    let read = bound (name_in fields 2) _ name e in
    let fresh = passed (is_some (position_of read.0 names)) _ name _ read.2 in
    let room = passed (nat_le limit (length names)) _ name _ fresh.1 in
    subst (IsNewName limit names) (ok_is _ name room.1) (record {
      named = name_is fields 2 read.0 read.1;
      fresh = nothing_is (position_of read.0 names) fresh.0;
      room = leb-false limit (length names) room.0;
    })

pub record IsWithin (low high value : ℕ) : Type 0 where
  pub from : low ≤ value
  pub to : value ≤ high

kept_within : {E : Type 0} (low high n value : ℕ) (fault : E)
    → cond (nat_le low n && nat_le n high) (done n) (refused fault) ≡ done value
    → IsWithin low high value
kept_within low high n value fault e =
    let each = and_parts (nat_le low value) (nat_le value high)
    (holds (λ v. nat_le low v && nat_le v high) n value fault e) in
    record { from = leb-true low value each.0; to = leb-true value high each.1 }

number_within : (number low high : ℕ) (spelled : Option ℕ) (value : ℕ)
    → within_limits number low high spelled ≡ Ok value → IsWithin low high value
number_within number low high None value e = absurd cc
number_within number low high (Some n) value e = kept_within low high n value _ e

pub number_is : (fields : Fields) (number low high value : ℕ)
    → number_in fields number low high ≡ Ok value → IsWithin low high value
unfolding number_in
number_is fields number low high value e =
    let bytes = bound (field_in fields number) _ value e in
    number_within number low high (number_of bytes.0) value bytes.2

-- a period of the day, no earlier than another
pub record IsLater (periods first last : ℕ) : Type 0 where
  pub forward : first ≤ last
  pub within : last < periods

pub later_is : {E : Type 0} (periods first last : ℕ) (number read : ℕ) (fields : Fields) (fault : E)
    → 1 ≤ periods → number_in fields number 0 (periods - 1) ≡ Ok read
    → cond (nat_lt read first) (refused fault) (done read) ≡ done last → IsLater periods first last
later_is periods first last number read fields fault some is e =
    let upto = (number_is fields number 0 (periods - 1) read is).to in
    let kept = passed (nat_lt read first) (done read) last fault e in
    subst (IsLater periods first) (ok_is read last kept.1) (record {
      forward =
          ltb-false read first kept.0;
      within = omega arith;
    })

part_within : (low high : ℕ) (spelled : Option ℕ) (value : ℕ) → within low high spelled ≡ Ok value
    → IsWithin low high value
part_within low high None value e = absurd cc
part_within low high (Some n) value e = kept_within low high n value _ e

part_is : (text : List ℕ) (from to low high value : ℕ) → part_of text from to low high ≡ Ok value
    → IsWithin low high value
part_is text from to low high value e =
    part_within low high (number_of (slice_range text from to)) value e

pub moment_is : (text : List ℕ) (moment : Moment) → moment_of text ≡ Ok moment → IsMoment moment
unfolding moment_of
moment_is text moment e =
    let form = bound (marked text) _ moment e in
    let year = bound (part_of text 0 4 1 last_year) _ moment form.2 in
    let month = bound (part_of text 5 7 1 12) _ moment year.2 in
    let day = bound (part_of text 8 10 1 31) _ moment month.2 in
    let hour = bound (part_of text 11 13 0 23) _ moment day.2 in
    let minute = bound (part_of text 14 16 0 59) _ moment hour.2 in
    let real = bound (of_calendar year.0 month.0 day.0) _ moment minute.2 in
    let of_year = part_is text 0 4 1 last_year year.0 year.1 in
    let of_month = part_is text 5 7 1 12 month.0 month.1 in
    let of_day = part_is text 8 10 1 31 day.0 day.1 in
    let of_hour = part_is text 11 13 0 23 hour.0 hour.1 in
    let of_minute = part_is text 14 16 0 59 minute.0 minute.1 in
    let there = given (nat_le day.0 (days_in_month year.0 month.0)) tt real.0 _ real.1 in
    subst IsMoment (ok_is _ moment real.2) (record {
      year_from = of_year.from;
      year_to = of_year.to;
      month_from = of_month.from;
      month_to = of_month.to;
      day_from = of_day.from;
      day_to = leb-true day.0 (days_in_month year.0 month.0) there.0;
      hour = of_hour.to;
      minute = of_minute.to;
    })
