-- What is known of tables that read, and of those of a flight.
use Rattle.std.proofs.Common.{◌≡◌, ℕ, zero, suc, ◌+◌, ◌-◌, ◌==◌, ◌<◌, ◌≤◌, Bool, true, false, IsTrue, List, [], ◌∷◌, length, drop, Option, Some, None, Ok, refl, sym, ap, subst, ◌∙◌, arith, All, length-drop, ℤ, pos, neg_ℤ, ◌≤ℤ◌}
use Rattle.std.specs.Prelude.{nat_le, nat_lt, slice_get}
use Rattle.std.proofs.lemmas.Bool.{leb-true, ltb-false}
use Rattle.std.proofs.lemmas.Int.{ints}
use Rattle.std.proofs.lemmas.Option.{same_Some}
use Rattle.flow_types.specs.Limits.{most_tables, most_value, most_values}
use Rattle.flow_types.specs.Valid.{is_cost, IsTable, IsValue, value_count}
use Rattle.flow_types.specs.Words.{number_of}
use Rattle.flow_types.specs.declared.flight.Cost.TheVariants.{Tables}
use Rattle.flow_types.specs.declared.flight.CostTable.{CostTable}
use Rattle.text_records.specs.Fields.{ends_after, field_in, present_at}
use Rattle.text_records.specs.Names.{known_in, new_name, position_of}
use Rattle.text_records.specs.Rows.{Fields}
use Rattle.scenario_reader.specs.DraftParts.{flight_names, table_names}
use Rattle.scenario_reader.specs.Tables.{has_tables, pricing_of, signed, table_in, table_of, untabled_at, untabled_in, value_at, value_in, value_of, values_from}
use Rattle.scenario_reader.specs.Validity.{IsPricing}
use Rattle.scenario_reader.specs.declared.flight_draft.FlightDraft.{FlightDraft}
use Rattle.scenario_reader.specs.declared.tables.Pricing.{Pricing}
use Rattle.scenario_reader.proofs.FinishFacts.{within_list}
use Rattle.text_records.proofs.StepFacts.{bound, given, holds, ok_is, passed}
use Rattle.scenario_reader.proofs.ValidFields.{new_name_is}

signed_within : (most n : ℕ) (negative : Bool) → n ≤ most → (neg_ℤ (pos most) ≤ℤ signed negative n)
    × (signed negative n ≤ℤ pos most)
signed_within most n true le = (omega (arith, ints), omega (arith, ints))
signed_within most n false le = (omega (arith, ints), omega (arith, ints))

value_within : (number : ℕ) (negative : Bool) (spelled : Option ℕ) (value : ℤ)
    → value_at number negative spelled ≡ Ok value → IsValue value
value_within number negative None value e = absurd cc
value_within number negative (Some n) value e =
    let kept = given (nat_le n most_value) (signed negative n) value _ e in
    let limits = signed_within most_value n negative (leb-true n most_value kept.0) in
    subst IsValue kept.1 (record { low = limits.0; high = limits.1 })

value_is : (number : ℕ) (bytes : List ℕ) (value : ℤ) → value_of number bytes ≡ Ok value
    → IsValue value
value_is number [] value e = absurd cc
value_is number (byte ∷ bytes) value e = by (byte == 45) refl
  where
    by : (b : Bool) → (byte == 45) ≡ b → IsValue value
    by true is = value_within number true (number_of bytes) value (rw is at e)
    by false is = value_within number false (number_of (byte ∷ bytes)) value (rw is at e)

-- as many values as fields, each within its limits, and the last in the 514th field at the latest
record AreValues (number : ℕ) (rest : List (List ℕ)) (values : List ℤ) : Type 0 where
  each : All IsValue values
  many : length values ≡ length rest
  few : number + length values ≤ most_values + 3

values_are : (number : ℕ) (rest : List (List ℕ)) (values : List ℤ) → number ≤ most_values + 3
    → values_from number rest ≡ Ok values → AreValues number rest values
unfolding values_from
values_are number [] values upto e =
    subst (AreValues number []) (ok_is [] values e) (record {
      each = λ k d h. absurd (omega arith);
      many = refl;
      few = omega arith;
    })
values_are number (bytes ∷ rest) values upto e =
    let value = bound (value_in number bytes) _ values e in
    let others = bound (values_from (number + 1) rest) _ values value.2 in
    let within = passed (nat_lt (most_values + 2) number) _ value.0 _ value.1 in
    let last = ltb-false (most_values + 2) number within.0 in
    let more = values_are (number + 1) rest others.0 (omega arith) others.1 in
    let first = value_is number bytes value.0 within.1 in
    subst (AreValues number (bytes ∷ rest)) (ok_is _ values others.2) (record {
      each = first_too value.0 others.0 first more.each;
      many = ap suc more.many;
      few = let few = more.few in omega arith;
    })
  where
    first_too : (value : ℤ) (values : List ℤ) → IsValue value → All IsValue values
        → All IsValue (value ∷ values)
    first_too value values one all zero d h = one
    first_too value values one all (suc k) d h = all k d (omega arith)

-- a field that is there is one of the record's
field_within : (fields : Fields) (k number : ℕ) (bytes : List ℕ)
    → present_at number (slice_get fields k) ≡ Ok bytes → k < length fields
field_within fields k number bytes e =
    within_list fields k (λ none. let missing = rw none at e in cc)

-- a valid table of a new name, with room for it
pub record IsNewTable (names : List (List ℕ)) (table : CostTable) : Type 0 where
  pub valid : IsTable table
  pub fresh : position_of table.name names ≡ None
  pub room : length names < most_tables

pub table_is : (names : List (List ℕ)) (fields : Fields) (table : CostTable)
    → table_of names fields ≡ Ok table → IsNewTable names table
unfolding table_of
table_is names fields table e =
    let name = bound (new_name most_tables names fields) _ table e in
    let first = bound (field_in fields 3) _ table name.2 in
    let values = bound (values_from 3 (drop 2 fields)) _ table first.2 in
    let new = new_name_is most_tables names fields name.0 name.1 in
    let are = values_are 3 (drop 2 fields) values.0 (omega arith) values.1 in
    let long : 2 < length fields = field_within fields 2 3 first.0 first.1 in
    let many : length values.0 ≡ length fields - 2 = are.many ∙ length-drop 2 fields in
    let few = are.few in
    subst (IsNewTable names) (ok_is _ table values.2) (record {
      valid = record { name = new.named; some = omega arith; few = omega arith; values = are.each };
      fresh = new.fresh;
      room = new.room;
    })

untabled_there : (flights : List FlightDraft) (k : ℕ) (found : ℕ × FlightDraft)
    → untabled_at k (slice_get flights k) ≡ Ok found → slice_get flights found.0 ≡ Some found.1
untabled_there flights k found e = by (slice_get flights k) refl e
  where
    by : (there : Option FlightDraft) → slice_get flights k ≡ there → untabled_at k there ≡ Ok found
        → slice_get flights found.0 ≡ Some found.1
    by None here e = absurd cc
    by (Some flight) here e =
        let kept = passed (has_tables flight.cost) _ found _ e in
        subst (λ (f : ℕ × FlightDraft). slice_get flights f.0 ≡ Some f.1)
        (ok_is _ found kept.1) here

untabled_is : (flights : List FlightDraft) (fields : Fields) (found : ℕ × FlightDraft)
    → untabled_in flights fields ≡ Ok found → slice_get flights found.0 ≡ Some found.1
unfolding untabled_in
untabled_is flights fields found e =
    let known = bound (known_in 2 (flight_names flights) fields) _ found e in
    untabled_there flights known.0 found known.2

long_enough : (number least : ℕ) (tables : List CostTable) (fields : Fields) (k : ℕ)
    → table_in number least tables fields ≡ Ok k
    → nat_le least (value_count (slice_get tables k)) ≡ true
unfolding table_in
long_enough number least tables fields k e =
    let known = bound (known_in number (table_names tables) fields) _ k e in
    holds (λ j. nat_le least (value_count (slice_get tables j))) known.0 k _ known.2

pub pricing_is : (flights : List FlightDraft) (tables : List CostTable) (fields : Fields)
    (pricing : Pricing) → pricing_of flights tables fields ≡ Ok pricing
    → IsPricing flights tables pricing
unfolding pricing_of
pricing_is flights tables fields pricing e =
    let found = bound (untabled_in flights fields) _ pricing e in
    let total = bound (table_in 3 (found.0.1.hours.md + 1) tables fields) _ pricing found.2 in
    let credit = bound (table_in 4 (found.0.1.hours.mg + 1) tables fields) _ pricing total.2 in
    let ended = bound (ends_after fields 4) _ pricing credit.2 in
    let here = untabled_is flights fields found.0 found.1 in
    let long = long_enough 3 (found.0.1.hours.md + 1) tables fields total.0 total.1 in
    let reaches = long_enough 4 (found.0.1.hours.mg + 1) tables fields credit.0 credit.1 in
    let cost : IsTrue (is_cost tables found.0.1.hours.mg found.0.1.hours.md
    (Tables total.0 credit.0)) = rw (long, reaches) refl in
    subst (IsPricing flights tables) (ok_is _ pricing ended.2) (record {
      flight = within_list flights found.0.0 (λ none. cc);
      long = λ flight there.
          subst (λ (f : FlightDraft). IsTrue
          (is_cost tables f.hours.mg f.hours.md (Tables total.0 credit.0)))
          (same_Some found.0.1 flight (sym here ∙ there)) cost;
    })
