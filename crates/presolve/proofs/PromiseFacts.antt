-- No multipliers of the program have a value above what the Dual leaf comes to that they give.
use Rattle.std.proofs.Common.{◌≡◌, ℕ, zero, suc, ◌+◌, ◌<◌, ◌≤◌, Bool, true, false, List, [], ◌∷◌, ◌++◌, length, map, slice_index_or, if◌then◌else◌, All, unsigned_abs, ℤ, pos, negsuc, neg_ℤ, ◌+ℤ◌, ◌*ℤ◌, ◌≤ℤ◌, refl, ap, ◌∙◌, subst, arith}
use Rattle.std.proofs.lemmas.Bool.Decides.{Decides-int_eq}
use Rattle.std.proofs.lemmas.List.Elements.{All-append, All-cons, All-filter, All-nil, All-tail}
use Rattle.std.proofs.lemmas.Option.{get_or_from_slice_get}
use Rattle.std.specs.List.{range_with_len}
use Rattle.std.specs.Ordering.{int_eq}
use Rattle.flow_types.specs.declared.parts.Parts.{Parts}
use Rattle.flow_types.specs.Valid.{IsScenario}
use Rattle.row_arena.specs.declared.entry.Entry.{Entry}
use Rattle.scaled_simplex.specs.Multipliers.{AreMultipliers, weighted}
use Rattle.scaled_simplex.specs.Points.{point_cost}
use Rattle.scaled_simplex.specs.Program.{Constraint, columns}
use Rattle.row_arena.proofs.WholeLaws.{linear, low_times, one_times, times_neg, times_one, zero_times}
use Rattle.time_windows.specs.Boxes.{Box, IsBoxOf}
use Rattle.time_windows.specs.Tight.{IsTight}
use Rattle.bytime_model.specs.declared.left.Left.{Left}
use Rattle.bytime_model.specs.declared.left.Left.TheVariants.{Free, One, Same, Zero}
use Rattle.bytime_model.specs.declared.names.RowName.{RowName}
use Rattle.bytime_model.specs.declared.variables.Var.{Var}
use Rattle.bytime_model.specs.declared.variables.Var.TheVariants.{By}
use Rattle.bytime_model.specs.CostRow.{cost_row, priced_value}
use Rattle.bytime_model.specs.Left.{Agrees, left_of}
use Rattle.cut_rows.specs.declared.names.CutName.{CutName}
use Rattle.cut_rows.specs.Pools.{IsPoolOf, is_row_with, row_with, rows_with}
use Rattle.dual_sums.specs.Dual.{IsChoice, dual_at, excess, excesses}
use Rattle.presolve.specs.Landed.{coefficient_of}
use Rattle.presolve.specs.Leaf.{IsBelowLeaf, leaf_rows}
use Rattle.presolve.specs.Points.{AgreesOver, turned}
use Rattle.presolve.specs.Relaxed.{at_most_one, flipped_of, kept_of, kept_row, may_exceed, program_of, row_in}
use Rattle.presolve.specs.Variables.{columns_of}
use Rattle.presolve.proofs.DualityFacts.{over, weakly_dual}
use Rattle.presolve.proofs.FlipFacts.{IsPointAt, entries_within, flipped_within, turned_back, unflipped}
use Rattle.presolve.proofs.PointFacts.{few, kept_over, rows_are, same_cost}

-- each of the names is of a row
pub kept_are : (parts : Parts) (pool : List CutName) (box : Box) → IsPoolOf parts pool
    → All (λ name. is_row_with parts pool name ≡ true) (kept_of parts pool box)
kept_are parts pool box cuts =
    All-filter (λ name. may_exceed (row_in parts pool box name))
    (λ name. is_row_with parts pool name ≡ true) (rows_with parts pool) (rows_are parts pool cuts)

-- by how much each constraint is exceeded
module _ (above : Constraint → ℤ) where
  -- constraints that aren't exceeded add nothing
  low_rest : (multipliers : List ℤ) (constraints : List Constraint)
      → All (λ multiplier. pos 0 ≤ℤ multiplier) multipliers
      → All (λ constraint. above constraint ≤ℤ pos 0) constraints
      → weighted above multipliers constraints ≤ℤ pos 0
  low_rest [] constraints signs low = omega (arith, linear)
  low_rest (y ∷ multipliers) [] signs low = omega (arith, linear)
  low_rest (y ∷ multipliers) (c ∷ constraints) signs low =
      let more = low_rest multipliers constraints
      (All-tail (λ z. pos 0 ≤ℤ z) y multipliers signs)
      (All-tail (λ d. above d ≤ℤ pos 0) c constraints low) in
      let here = at_most y (above c) (signs 0 y (omega arith)) (low 0 c (omega arith)) in
      omega (arith, linear, more, here)
    where
      at_most : (a b : ℤ) → pos 0 ≤ℤ a → b ≤ℤ pos 0 → (a *ℤ b) ≤ℤ pos 0
      at_most a b low high =
          omega (
            arith,
            linear,
            times_neg a b,
            low_times a (neg_ℤ b) low (omega (arith, linear, high)),
          )

  -- the kept rows of a leaf count as their constraints
  below_rows : (parts : Parts) (pool : List CutName) (box : Box) (value : Var → ℕ)
      (names : List RowName) (multipliers : List ℤ) (rest : List Constraint)
      → All (λ multiplier. pos 0 ≤ℤ multiplier) multipliers
      → All (λ constraint. above constraint ≤ℤ pos 0) rest
      → All (λ name. above (kept_row parts pool box name)
      ≡ excess value (row_with parts pool name)) names
      → weighted above multipliers (map (kept_row parts pool box) names ++ rest)
      ≤ℤ excesses parts pool (leaf_rows names multipliers) value
  below_rows parts pool box value [] multipliers rest signs low same =
      low_rest multipliers rest signs low
  below_rows parts pool box value (name ∷ names) [] rest signs low same = omega (arith, linear)
  below_rows parts pool box value (name ∷ names) (y ∷ multipliers) rest signs low same =
      by (int_eq y (pos 0)) refl (below_rows parts pool box value names multipliers rest
      (All-tail (λ z. pos 0 ≤ℤ z) y multipliers signs) low
      (All-tail (λ other. above (kept_row parts pool box other)
      ≡ excess value (row_with parts pool other)) name names same))
    where
      row : ℤ
      row = excess value (row_with parts pool name)

      here : y *ℤ above (kept_row parts pool box name) ≡ y *ℤ row
      here = ap (λ n. y *ℤ n) (same 0 name (omega arith))

      size : (z : ℤ) → pos 0 ≤ℤ z → pos (unsigned_abs z) ≡ z
      size (pos n) low = refl
      size (negsuc n) low = absurd (omega (arith, linear, low))

      by : (b : Bool) → int_eq y (pos 0) ≡ b
          → weighted above multipliers (map (kept_row parts pool box) names ++ rest)
          ≤ℤ excesses parts pool (leaf_rows names multipliers) value
          → ((y *ℤ above (kept_row parts pool box name))
          +ℤ weighted above multipliers (map (kept_row parts pool box) names ++ rest))
          ≤ℤ excesses parts pool ((if b then []
          else record { row = name; value = unsigned_abs y } ∷ [])
          ++ leaf_rows names multipliers) value
      by true is more =
          let none = ap (λ n. n *ℤ row) ((Decides-int_eq y (pos 0)).0 is) in
          omega (arith, linear, here, none, zero_times row, more)
      by false isnt more =
          let own = ap (λ n. n *ℤ row) (size y (signs 0 y (omega arith))) in
          omega (arith, linear, here, own, more)

-- the constraints are over the columns
module _ (parts : Parts) (pool : List CutName) (box : Box) where
  abbrev count : ℕ
  count = columns (program_of parts pool box)

  abbrev IsOver : Constraint → Type 0
  IsOver constraint = All (λ entry. entry.column < count) constraint.terms

  kept_within : (names : List RowName) → All IsOver (map (kept_row parts pool box) names)
  kept_within [] = All-nil IsOver
  kept_within (name ∷ names) =
      All-cons IsOver (kept_row parts pool box name) (map (kept_row parts pool box) names)
      (flipped_within (flipped_of parts box) (row_in parts pool box name).terms count
      (entries_within (coefficient_of parts box (row_with parts pool name).terms)
      (columns_of parts box) 0 count (omega (arith, few parts pool box))))
      (kept_within names)

  ones_within : (from many : ℕ) → from + many ≤ count
      → All IsOver (map at_most_one (range_with_len from many))
  ones_within from zero all = All-nil IsOver
  ones_within from (suc many) all =
      All-cons IsOver (at_most_one from) (map at_most_one (range_with_len (from + 1) many))
      (All-cons (λ (entry : Entry). entry.column < count)
      (record { column = from; value = pos 1 }) [] (omega (arith, all))
      (All-nil (λ (entry : Entry). entry.column < count)))
      (ones_within (from + 1) many (omega (arith, all)))

  all_within : All IsOver (program_of parts pool box).constraints
  all_within =
      All-append IsOver (map (kept_row parts pool box) (kept_of parts pool box))
      (map at_most_one (range_with_len 0 (length (columns_of parts box))))
      (kept_within (kept_of parts pool box))
      (ones_within 0 (length (columns_of parts box)) (omega (arith, few parts pool box)))

module _ (parts : Parts) (pool : List CutName) (scenario : IsScenario parts)
    (cuts : IsPoolOf parts pool) (box : Box) (made : IsBoxOf parts box) (tight : IsTight parts box)
    (value : Var → ℕ) (chosen : IsChoice parts.flights box value)
  where
    abbrev all_columns : List Var
    all_columns = columns_of parts box

    abbrev flips : List Bool
    flips = flipped_of parts box

    -- the values of the variables, of the columns' variables, and of the columns
    abbrev number : Var → ℤ
    number variable = pos (value variable)

    abbrev bit : ℕ → ℤ
    bit k = number (slice_index_or all_columns k (By 0 0 0))

    abbrev at : ℕ → ℤ
    at k = turned (pos 1) (slice_index_or flips k false) (bit k)

    bit_small : (k : ℕ) → bit k ≤ℤ pos 1
    bit_small k =
        let small = chosen.bits (slice_index_or all_columns k (By 0 0 0)) in
        omega (arith, linear, small)

    at_low : (k : ℕ) → pos 0 ≤ℤ at k
    at_low k = by (slice_index_or flips k false) (bit_small k)
      where
        by : (b : Bool) → bit k ≤ℤ pos 1 → pos 0 ≤ℤ turned (pos 1) b (bit k)
        by true small = omega (arith, linear, small)
        by false small = omega (arith, linear)

    at_small : (k : ℕ) → at k ≤ℤ pos 1
    at_small k = by (slice_index_or flips k false) (bit_small k)
      where
        by : (b : Bool) → bit k ≤ℤ pos 1 → turned (pos 1) b (bit k) ≤ℤ pos 1
        by true small = omega (arith, linear)
        by false small = small

    agree : (variable : Var)
        → AgreesOver (pos 1) number variable (left_of parts.flights box variable)
    agree variable = by (left_of parts.flights box variable) (chosen.agree variable)
      where
        by : (left : Left) → Agrees value variable left
            → AgreesOver (pos 1) number variable left
        by Zero agrees = ap pos agrees
        by One agrees = ap pos agrees
        by (Same other) agrees = ap pos agrees
        by Free agrees = tt

    point : IsPointAt all_columns number 0 (unflipped flips at (pos 1))
    point = record {
      at = λ i k column same here.
          let e : i ≡ k = omega (arith, same) in
          turned_back (pos 1) (slice_index_or flips k false) (bit k)
          ∙ ap number (subst (λ n. slice_index_or all_columns n (By 0 0 0) ≡ column) e
          (get_or_from_slice_get all_columns i column (By 0 0 0) here));
    }

    -- a constraint is exceeded as its row is
    same_over : (name : RowName) → is_row_with parts pool name ≡ true
        → over at (pos 1) (kept_row parts pool box name) ≡ excess value (row_with parts pool name)
    same_over name is =
        let same = kept_over parts pool scenario box made tight number (pos 1) agree at point
        name is in
        let once = times_one (row_with parts pool name).limit in
        omega (arith, linear, same, once)

    ones_low : (from count : ℕ)
        → All (λ constraint. over at (pos 1) constraint ≤ℤ pos 0)
        (map at_most_one (range_with_len from count))
    ones_low from zero = All-nil (λ constraint. over at (pos 1) constraint ≤ℤ pos 0)
    ones_low from (suc count) =
        All-cons (λ constraint. over at (pos 1) constraint ≤ℤ pos 0) (at_most_one from)
        (map at_most_one (range_with_len (from + 1) count))
        (let small = at_small from in let one = one_times (at from) in
        omega (arith, linear, small, one))
        (ones_low (from + 1) count)

    -- the program's cost is the cost row's value
    same_worth : point_cost (program_of parts pool box) at (pos 1)
        ≡ priced_value value (cost_row parts)
    same_worth =
        let same = same_cost parts pool scenario box made tight number (pos 1) agree at point in
        let once = times_one (cost_row parts).constant in
        omega (arith, linear, same, once)

    pub kept_promise : (weight : ℕ) (multipliers : List ℤ) (worth : ℤ)
        → AreMultipliers (program_of parts pool box) (pos weight) multipliers worth
        → worth ≤ℤ dual_at parts pool weight (leaf_rows (kept_of parts pool box) multipliers) value
    kept_promise weight multipliers worth are =
        let dual = weakly_dual at (pos 1) at_low (program_of parts pool box) (pos weight)
        multipliers worth are (all_within parts pool box) in
        let once = times_one worth in
        let cost = ap (λ n. pos weight *ℤ n) same_worth in
        let rows = below_rows (over at (pos 1)) parts pool box value (kept_of parts pool box)
        multipliers (map at_most_one (range_with_len 0 (length all_columns))) are.signs
        (ones_low 0 (length all_columns))
        (λ k d within. same_over (slice_index_or (kept_of parts pool box) k d)
        (kept_are parts pool box cuts k d within)) in
        omega (arith, linear, dual, once, cost, rows)

pub promised : (parts : Parts) (pool : List CutName) (box : Box) → IsScenario parts
    → IsPoolOf parts pool → IsBoxOf parts box → IsTight parts box
    → IsBelowLeaf parts pool box (program_of parts pool box) (kept_of parts pool box)
promised parts pool box scenario cuts made tight weight multipliers worth are value chosen =
    kept_promise parts pool scenario cuts box made tight value chosen weight multipliers worth
    are
