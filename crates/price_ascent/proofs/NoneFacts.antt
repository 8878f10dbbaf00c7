-- Prices prove that no plan is in a box where their value at weight 0 is above 0.
use Rattle.std.proofs.Common.{◌≡◌, ◌↔◌, Bool, true, false, IsTrue, Option, None, Some, MatchOption, ℤ, pos, refl, arith}
use Rattle.std.specs.Prelude.{int_lt}
use Rattle.std.proofs.lemmas.Int.{ints}
use Rattle.flow_types.specs.declared.parts.Parts.{Parts}
use Rattle.flight_routes.specs.Prices.{PriceTable}
use Rattle.priced_plans.specs.Values.{IsPricedValue}
use Rattle.priced_plans.specs.Valuing.{LacksTrip}
use Rattle.priced_plans.proofs.OnceFacts.{lacks_none, value_once}
use Rattle.time_windows.specs.Boxes.{Box}
use Rattle.price_ascent.specs.Work.{HasNone, is_positive}

none_without : (parts : Parts) (box : Box) (table : PriceTable) → LacksTrip parts box
    → IsTrue false ↔ HasNone parts box table
none_without parts box table lacks = (
  λ never. absurd (let e : false ≡ true = never in cc),
  λ has. absurd (lacks_none parts box 0 table has.value lacks has.priced),
)

none_by : (parts : Parts) (box : Box) (table : PriceTable) (value : ℤ)
    → IsPricedValue parts box 0 table value → IsTrue (int_lt (pos 0) value)
    ↔ HasNone parts box table
none_by parts box table value is = (
  λ above. record { value = value; priced = is; above = omega (arith, ints, above) },
  λ has. by (int_lt (pos 0) value) refl has,
)
  where
    by : (b : Bool) → int_lt (pos 0) value ≡ b → HasNone parts box table → b ≡ true
    by true more has = refl
    by false less has =
        let same = value_once parts box 0 table has.value value has.priced is in
        let above = has.above in
        absurd (omega (arith, ints, less, same, above))

pub none_told : (parts : Parts) (box : Box) (table : PriceTable) (value : Option ℤ)
    → MatchOption value (LacksTrip parts box) (IsPricedValue parts box 0 table)
    → IsTrue (is_positive value) ↔ HasNone parts box table
none_told parts box table None lacks = none_without parts box table lacks
none_told parts box table (Some value) is = none_by parts box table value is
