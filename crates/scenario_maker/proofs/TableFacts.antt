-- The records of tables are read as the tables.
use Rattle.std.proofs.Common.{◌≡◌, ◌≢◌, ℕ, suc, ◌+◌, ◌^◌, ◌<◌, ◌≤◌, List, [], ◌∷◌, ◌++◌, map, length, Some, None, Ok, All, AllPairs, ℤ, pos, negsuc, refl, sym, ap, subst, ◌∙◌, arith, append_assoc, length-append}
use Rattle.std.specs.Char.{digit_value}
use Rattle.std.specs.Fmt.{decimal, signed_decimal}
use Rattle.std.specs.Str.Parse.{IsNumeral}
use Rattle.std.proofs.lemmas.Bool.{le-leb, le-ltb, ne_eqb}
use Rattle.std.proofs.lemmas.Fmt.{decimal_is_IsNumeral_wide, decimal_nonempty}
use Rattle.std.proofs.lemmas.Int.{ints}
use Rattle.std.proofs.lemmas.List.{append-nil, length-map}
use Rattle.flow_types.specs.Limits.{most_tables}
use Rattle.flow_types.specs.Valid.{IsScenario, IsTable, IsValue}
use Rattle.flow_types.specs.Words.{number_of}
use Rattle.flow_types.specs.declared.flight.CostTable.{CostTable}
use Rattle.flow_types.specs.declared.parts.Parts.{Parts}
use Rattle.plan_text.proofs.ReadBack.{number_back}
use Rattle.text_records.specs.Names.{position_of}
use Rattle.scenario_reader.specs.DraftParts.{DraftParts, table_names}
use Rattle.scenario_reader.specs.Reading.{record_step, table_step, with_table}
use Rattle.scenario_reader.specs.Tables.{table_of, value_of, values_from}
use Rattle.scenario_maker.specs.Writing.{table_row}
use Rattle.scenario_maker.proofs.PlaceFacts.{fresh_behind}
use Rattle.scenario_maker.proofs.PlainFacts.{first_holds, found_holds, others_hold}
use Rattle.scenario_maker.proofs.StepFacts.{Leads, leads_more, leads_none, leads_same, new_back, seam}

no_sign : (n b : ℕ) (rest : List ℕ) → n < 10 ^ 64 → decimal n ≡ b ∷ rest → b ≢ 45
no_sign n b rest few same is =
    let digit : digit_value b < 10 =
    (subst (λ (bytes : List ℕ). IsNumeral 10 bytes) same (decimal_is_IsNumeral_wide n few).0).1.0 in
    let sign : digit_value 45 < 10 = subst (λ (c : ℕ). digit_value c < 10) is digit in
    omega (arith, sign)

whole_back : (number n : ℕ) → n ≤ 1000000000 → value_of number (decimal n) ≡ Ok (pos n)
whole_back number n few = by (decimal n) refl
  where
    by : (bytes : List ℕ) → decimal n ≡ bytes → value_of number bytes ≡ Ok (pos n)
    by [] same =
        let some : 1 ≤ length (decimal n) = decimal_nonempty n (omega (arith, few)) in
        let none : length (decimal n) ≡ 0 = ap length same in
        absurd (omega (arith, some, none))
    by (b ∷ bytes) same =
        let other = no_sign n b bytes (omega (arith, few)) same in
        let spelled : number_of (b ∷ bytes) ≡ Some n =
        ap number_of (sym same) ∙ number_back n (omega (arith, few)) in
        rw (ne_eqb b 45 other, spelled, le-leb n 1000000000 few) refl

value_back : (number : ℕ) (value : ℤ) → IsValue value
    → value_of number (signed_decimal value) ≡ Ok value
value_back number (pos n) near =
    let high = near.high in
    whole_back number n (omega (arith, ints, high))
value_back number (negsuc n) near =
    let low = near.low in
    let few : suc n ≤ 1000000000 = omega (arith, ints, low) in
    rw (number_back (suc n) (omega (arith, few)), le-leb (suc n) 1000000000 few) refl

values_back : (number : ℕ) (values : List ℤ) → number + length values ≤ 515
    → All IsValue values → values_from number (map signed_decimal values) ≡ Ok values
unfolding values_from
values_back number [] few near = refl
values_back number (value ∷ values) few near =
    rw (
      le-ltb 514 number (omega (arith, few)),
      value_back number value (first_holds IsValue value values near),
      values_back (number + 1) values (omega (arith, few)) (others_hold IsValue value values near),
    ) refl

table_read : (draft : DraftParts) (at : ℕ) (name : List ℕ) (values : List ℤ)
    → IsTable (record { name = name; values = values })
    → position_of name (table_names draft.tables) ≡ None
    → length (table_names draft.tables) < most_tables
    → record_step draft at (table_row (record { name = name; values = values }))
    ≡ Ok (with_table draft (record { name = name; values = values }))
unfolding record_step table_step table_of
table_read draft at name [] is fresh room = let some = is.some in absurd (omega (arith, some))
table_read draft at name (value ∷ values) is fresh room =
    let few = is.few in
    rw (
      new_back (table_row (record { name = name; values = value ∷ values })) most_tables
          (table_names draft.tables) name refl is.name fresh room,
      values_back 3 (value ∷ values) (omega (arith, few)) is.values,
    ) refl

-- the day with its places and these tables
abbrev pub with_tables : Parts → List CostTable → DraftParts
with_tables parts tables = record {
  day = parts.day;
  places = parts.places;
  flights = [];
  tables = tables;
  connections = [];
}

module _ (parts : Parts) (valid : IsScenario parts) where
  pub tables_lead : (at : ℕ) (before tables : List CostTable) → parts.tables ≡ before ++ tables
      → Leads at (with_tables parts before) (map table_row tables)
      (with_tables parts parts.tables)
  tables_lead at before [] are =
      leads_same at (with_tables parts before) (with_tables parts before)
      (with_tables parts parts.tables) []
      (ap (with_tables parts) (sym (are ∙ append-nil before)))
      (leads_none at (with_tables parts before))
  tables_lead at before (table ∷ tables) are =
      let is : IsTable table =
      found_holds IsTable parts.tables (length before) table valid.tables.each
      (rw are (seam before table tables)) in
      let fresh_name : position_of table.name (table_names before) ≡ None =
      fresh_behind (λ (t : CostTable). t.name) before table tables
      (subst (AllPairs (λ (a b : CostTable). a.name ≢ b.name)) are valid.tables.names) in
      let count : length (table_names before) ≡ length before =
      length-map before (λ (t : CostTable). t.name) in
      let all : length parts.tables ≡ length before + suc (length tables) =
      ap length are ∙ length-append before (table ∷ tables) in
      let few = valid.tables.few in
      leads_more at (with_tables parts before) (with_tables parts (before ++ table ∷ []))
      (with_tables parts parts.tables) (table_row table) (map table_row tables)
      (table_read (with_tables parts before) at table.name table.values is fresh_name
      (omega (arith, count, all, few)))
      (tables_lead (at + 1) (before ++ table ∷ []) tables
      (are ∙ sym (append_assoc before (table ∷ []) tables)))
