-- Points of a tight box's program are points of the relaxation, and cost as much.
use Rattle.std.proofs.Common.{◌≡◌, ℕ, zero, suc, ◌+◌, ◌<◌, Bool, true, false, List, [], ◌∷◌, ◌++◌, length, map, slice_get, slice_index_or, Option, None, Some, if◌then◌else◌, All, int_lt, ℤ, pos, neg_ℤ, ◌-ℤ◌, ◌*ℤ◌, ◌≤ℤ◌, ◌<ℤ◌, refl, sym, ap, ◌∙◌, subst, arith}
use Rattle.std.proofs.Math.Seq.{drop-append_seam, take-append_seam}
use Rattle.std.proofs.lemmas.List.Elements.{All-cons, All-drop, All-nil, All-tail, All-take}
use Rattle.std.proofs.lemmas.Option.{get_or_from_slice_get, slice_get_within}
use Rattle.std.specs.Int.{int_max}
use Rattle.std.specs.List.{filter, position_from, range_with_len}
use Rattle.flow_types.specs.declared.parts.Parts.{Parts}
use Rattle.flow_types.specs.Valid.{IsScenario}
use Rattle.row_arena.specs.declared.entry.Entry.{Entry}
use Rattle.scaled_simplex.specs.Points.{ConstraintHolds, IsProgramPoint, point_cost, terms_at}
use Rattle.scaled_simplex.specs.Program.{Constraint}
use Rattle.row_arena.proofs.WholeLaws.{less_is, less_isnt, less_times, linear, low_times, neg_times, one_times, sum_times, times_less, zero_times}
use Rattle.time_windows.specs.Boxes.{Box, IsBoxOf}
use Rattle.time_windows.specs.Tight.{IsTight}
use Rattle.bytime_model.specs.declared.left.Left.{Left}
use Rattle.bytime_model.specs.declared.left.Left.TheVariants.{Free, One, Same, Zero}
use Rattle.bytime_model.specs.declared.names.RowName.{RowName}
use Rattle.bytime_model.specs.declared.variables.Var.{Var}
use Rattle.bytime_model.specs.Left.{left_of}
use Rattle.bytime_model.specs.Columns.{IsWhole}
use Rattle.bytime_model.proofs.NumberFacts.{whole_box}
use Rattle.cut_rows.specs.declared.names.CutName.{CutName}
use Rattle.cut_rows.specs.Pools.{IsPoolOf, is_row_with, row_with, rows_with}
use Rattle.presolve.specs.Landed.{coefficient_of}
use Rattle.presolve.specs.Points.{AgreesOver, IsNumerator, IsRelaxationPoint, IsRowKept, column_value, free_value, left_value, relaxation_cost, turned, value_of_point}
use Rattle.presolve.specs.Relaxed.{at_most_one, flipped_of, greatest, kept_of, kept_row, may_exceed, program_of, row_in}
use Rattle.presolve.specs.Variables.{columns_of, is_same}
use Rattle.presolve.proofs.DualityFacts.{over}
use Rattle.presolve.proofs.FlipFacts.{IsPointAt, entries_within, unflipped}
use Rattle.presolve.proofs.FreeFacts.{IsFreed, all_freed, column_once, is_itself, same_is}
use Rattle.presolve.proofs.PointFacts.{few, kept_over, landed_over, rows_are, same_cost}

-- the place of what is in a list once
position_here : (variable : Var) (xs : List Var) (from k : ℕ) → slice_get xs k ≡ Some variable
    → ((j : ℕ) → slice_get xs j ≡ Some variable → j ≡ k)
    → position_from (is_same variable) from xs ≡ Some (from + k)
position_here variable [] from k here once = absurd (let e : ⊥ = cc in e)
position_here variable (x ∷ xs) from zero here once =
    let same : x ≡ variable = cc in
    ap (λ b. if b then Some from else position_from (is_same variable) (from + 1) xs)
    (ap (is_same variable) same ∙ is_itself variable)
    ∙ ap Some (let e : from ≡ from + 0 = omega arith in e)
position_here variable (x ∷ xs) from (suc k) here once =
    by (is_same variable x) refl
    (position_here variable xs (from + 1) k here
    (λ j there. let e = once (suc j) there in omega (arith, e)))
  where
    by : (b : Bool) → is_same variable x ≡ b
        → position_from (is_same variable) (from + 1) xs ≡ Some (from + 1 + k)
        → (if b then Some from else position_from (is_same variable) (from + 1) xs)
        ≡ Some (from + suc k)
    by true is later =
        let first = once 0 (ap Some (sym (same_is variable x is))) in absurd (omega (arith, first))
    by false isnt later = later ∙ ap Some (let e : from + 1 + k ≡ from + suc k = omega arith in e)

-- a place that is found is within the list
position_within : (test : Var → Bool) (xs : List Var) (from k : ℕ)
    → position_from test from xs ≡ Some k → k < from + length xs
position_within test [] from k found = absurd (let e : ⊥ = cc in e)
position_within test (x ∷ xs) from k found =
    by (test x) found (position_within test xs (from + 1) k)
  where
    by : (b : Bool)
        → (if b then Some from else position_from test (from + 1) xs) ≡ Some k
        → (position_from test (from + 1) xs ≡ Some k → k < from + 1 + length xs)
        → k < from + length (x ∷ xs)
    by true found later = let same : from ≡ k = cc in omega (arith, same)
    by false found later = let more = later found in omega (arith, more)

-- the left side of a row is no more than its greatest
module _ (numerator : ℕ → ℤ) (denominator : ℤ) (count : ℕ)
    (within : (k : ℕ) → k < count → IsNumerator denominator (numerator k)) where
  part_most : (factor part : ℤ) → IsNumerator denominator part
      → (factor *ℤ part) ≤ℤ (int_max (pos 0) factor *ℤ denominator)
  part_most factor part is = by (int_lt factor (pos 0)) refl is.low is.high
    where
      by : (b : Bool) → int_lt factor (pos 0) ≡ b → pos 0 ≤ℤ part → part ≤ℤ denominator
          → (factor *ℤ part) ≤ℤ ((if b then pos 0 else factor) *ℤ denominator)
      by true below low high =
          let less = less_is factor (pos 0) below in
          let down = low_times (neg_ℤ factor) part (omega (arith, linear, less)) low in
          let turn = neg_times factor part in
          let none = zero_times denominator in omega (arith, linear, down, turn, none)
      by false above low high =
          let more = less_isnt factor (pos 0) above in
          let up = low_times factor (denominator -ℤ part) more (omega (arith, linear, high)) in
          let split = times_less factor denominator part in omega (arith, linear, up, split)

  terms_most : (terms : List Entry) → All (λ entry. entry.column < count) terms
      → terms_at terms numerator ≤ℤ (greatest terms *ℤ denominator)
  terms_most [] all = omega (arith, linear, zero_times denominator)
  terms_most (entry ∷ terms) all =
      let here = part_most entry.value (numerator entry.column)
      (within entry.column (all 0 entry (omega arith))) in
      let more = terms_most terms (All-tail (λ (e : Entry). e.column < count) entry terms all) in
      let both = sum_times (int_max (pos 0) entry.value) (greatest terms) denominator in
      omega (arith, linear, here, more, both)

  -- so a row that values from 0 to 1 don't exceed is kept
  never_over : (row : Constraint) → All (λ entry. entry.column < count) row.terms
      → pos 0 <ℤ denominator → may_exceed row ≡ false
      → over numerator denominator row ≤ℤ pos 0
  never_over row all positive never =
      let most = terms_most row.terms all in
      let room = less_isnt row.limit (greatest row.terms) never in
      let left = low_times (row.limit -ℤ greatest row.terms) denominator
      (omega (arith, linear, room)) (omega (arith, linear, positive)) in
      let split = less_times row.limit (greatest row.terms) denominator in
      omega (arith, linear, most, left, split)

module _ (parts : Parts) (pool : List CutName) (box : Box) (scenario : IsScenario parts)
    (cuts : IsPoolOf parts pool) (made : IsBoxOf parts box) (tight : IsTight parts box)
    (numerator : ℕ → ℤ) (denominator : ℤ) where
  abbrev all_columns : List Var
  all_columns = columns_of parts box

  abbrev flips : List Bool
  flips = flipped_of parts box

  abbrev value : Var → ℤ
  value = value_of_point parts box numerator denominator

  abbrev bit : ℕ → ℤ
  bit = unflipped flips numerator denominator

  whole : IsWhole parts.flights box
  whole = whole_box parts box made tight

  -- the values are as the box leaves them
  value_by : (variable : Var) (left : Left) → left_of parts.flights box variable ≡ left
      → value variable
      ≡ left_value (free_value parts box numerator denominator) denominator variable left
  value_by variable left is =
      ap (left_value (free_value parts box numerator denominator) denominator variable) is

  agree : (variable : Var)
      → AgreesOver denominator value variable (left_of parts.flights box variable)
  agree variable = by (left_of parts.flights box variable) refl
    where
      by : (left : Left) → left_of parts.flights box variable ≡ left
          → AgreesOver denominator value variable left
      by Zero is = value_by variable Zero is
      by One is = value_by variable One is
      by (Same other) is =
          value_by variable (Same other) is
          ∙ sym (value_by other Free (whole.same variable other is))
      by Free is = tt

  -- a column's variable is at the column's value
  column_at : (i k : ℕ) (column : Var) → k ≡ 0 + i → slice_get all_columns i ≡ Some column
      → bit k ≡ value column
  column_at i k column same here =
      let freed : IsFreed parts.flights box column =
      subst (IsFreed parts.flights box) (get_or_from_slice_get all_columns i column column here)
      (all_freed parts box i column (slice_get_within all_columns i column here)) in
      let place = position_here column all_columns 0 i here
      (λ j there. column_once parts scenario box made column freed.there freed.free j i there here)
      in
      let e : k ≡ 0 + i = same in
      ap bit e
      ∙ sym (ap (column_value flips numerator denominator) place)
      ∙ sym (value_by column Free freed.free)

  at_columns : IsPointAt all_columns value 0 bit
  at_columns = record { at = column_at }

  pub costs_alike : relaxation_cost parts value denominator
      ≡ point_cost (program_of parts pool box) numerator denominator
  costs_alike =
      sym (same_cost parts pool scenario box made tight value denominator agree numerator
      at_columns)

  module _ (point : IsProgramPoint (program_of parts pool box) numerator denominator) where
    abbrev Holds : Constraint → Type 0
    Holds = ConstraintHolds numerator denominator

    abbrev first_rows : List Constraint
    first_rows = map (kept_row parts pool box) (kept_of parts pool box)

    abbrev last_rows : List Constraint
    last_rows = map at_most_one (range_with_len 0 (length all_columns))

    first_hold : All Holds first_rows
    first_hold =
        subst (All Holds) (take-append_seam first_rows last_rows)
        (All-take Holds (length first_rows) (first_rows ++ last_rows) point.kept)

    last_hold : All Holds last_rows
    last_hold =
        subst (All Holds) (drop-append_seam first_rows last_rows)
        (All-drop Holds (length first_rows) (first_rows ++ last_rows) point.kept)

    each_high : (from count i k : ℕ)
        → All Holds (map at_most_one (range_with_len from count)) → k ≡ from + i → i < count
        → numerator k ≤ℤ denominator
    each_high from zero i k all same within = absurd (omega (arith, within))
    each_high from (suc count) zero k all same within =
        let first : Holds (at_most_one from) = all 0 (at_most_one from) (omega arith) in
        let one = one_times (numerator from) in
        let other = one_times denominator in
        let here = ap numerator (let e : k ≡ from = omega (arith, same) in e) in
        omega (arith, linear, first, one, other, here)
    each_high from (suc count) (suc i) k all same within =
        each_high (from + 1) count i k
        (All-tail Holds (at_most_one from) (map at_most_one (range_with_len (from + 1) count)) all)
        (omega (arith, same)) (omega (arith, within))

    -- the columns' variables are from 0 to the denominator
    turned_within : (flip : Bool) (part : ℤ) → IsNumerator denominator part
        → IsNumerator denominator (turned denominator flip part)
    turned_within true part is =
        let low = is.low in let high = is.high in record {
          low = omega (arith, linear, high);
          high = omega (arith, linear, low);
        }
    turned_within false part is = is

    pub numbers_within : (k : ℕ) → k < length all_columns → IsNumerator denominator (numerator k)
    numbers_within k within = record {
      low = point.least k (omega (arith, within, few parts pool box));
      high = each_high 0 (length all_columns) k k last_hold (omega arith) within;
    }

    bits_within : (k : ℕ) → k < length all_columns → IsNumerator denominator (bit k)
    bits_within k within =
        turned_within (slice_index_or flips k false) (numerator k) (numbers_within k within)

    place_within : (variable : Var) (place : Option ℕ)
        → position_from (is_same variable) 0 all_columns ≡ place
        → IsNumerator denominator (column_value flips numerator denominator place)
    place_within variable None none =
        let positive = point.positive in record {
          low = omega (arith, linear);
          high = omega (arith, linear, positive);
        }
    place_within variable (Some k) found =
        let within = position_within (is_same variable) all_columns 0 k found in
        bits_within k (omega (arith, within))

    free_within : (variable : Var) → left_of parts.flights box variable ≡ Free
        → IsNumerator denominator (value variable)
    free_within variable free =
        subst (IsNumerator denominator) (sym (value_by variable Free free))
        (place_within variable (position_from (is_same variable) 0 all_columns) refl)

    -- rows that are in the program are kept with it, and the others anyway
    abbrev Keeps : RowName → Type 0
    Keeps name = IsRowKept value denominator (row_with parts pool name)

    named_kept : (name : RowName) → is_row_with parts pool name ≡ true
        → Holds (kept_row parts pool box name) → Keeps name
    named_kept name is holds =
        let same = kept_over parts pool scenario box made tight value denominator agree
        numerator at_columns name is in
        omega (arith, linear, holds, same)

    never_kept : (name : RowName) → is_row_with parts pool name ≡ true
        → may_exceed (row_in parts pool box name) ≡ false → Keeps name
    never_kept name is never =
        let low = never_over bit denominator (length all_columns) bits_within
        (row_in parts pool box name)
        (entries_within (coefficient_of parts box (row_with parts pool name).terms) all_columns 0
        (length all_columns) (omega arith)) point.positive never in
        let same = landed_over parts pool scenario box made tight value denominator agree
        numerator at_columns name is in
        omega (arith, linear, low, same)

    all_kept : (names : List RowName) → All (λ name. is_row_with parts pool name ≡ true) names
        → All Holds (map (kept_row parts pool box)
        (filter (λ name. may_exceed (row_in parts pool box name)) names))
        → All Keeps names
    all_kept [] are hold = All-nil Keeps
    all_kept (name ∷ names) are hold =
        by (may_exceed (row_in parts pool box name)) refl hold
        (all_kept names (All-tail (λ n. is_row_with parts pool n ≡ true) name names are))
      where
        by : (b : Bool) → may_exceed (row_in parts pool box name) ≡ b
            → All Holds (map (kept_row parts pool box)
            (if b then name ∷ filter (λ n. may_exceed (row_in parts pool box n)) names
            else filter (λ n. may_exceed (row_in parts pool box n)) names))
            → (All Holds (map (kept_row parts pool box)
            (filter (λ n. may_exceed (row_in parts pool box n)) names)) → All Keeps names)
            → All Keeps (name ∷ names)
        by true may hold later =
            All-cons Keeps name names
            (named_kept name (are 0 name (omega arith)) (hold 0 (kept_row parts pool box name)
            (omega arith)))
            (later (All-tail Holds (kept_row parts pool box name) (map (kept_row parts pool box)
            (filter (λ n. may_exceed (row_in parts pool box n)) names)) hold))
        by false never hold later =
            All-cons Keeps name names (never_kept name (are 0 name (omega arith)) never)
            (later hold)

    pub relaxation_point : IsRelaxationPoint parts pool box value denominator
    relaxation_point = record {
      positive = point.positive;
      within = free_within;
      agree = agree;
      kept = all_kept (rows_with parts pool) (rows_are parts pool cuts) first_hold;
    }
