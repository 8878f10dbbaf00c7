-- What rows and the cost come to over the columns: the same as over the variables, with numerators
-- over one denominator.
use Rattle.std.proofs.Common.{◌≡◌, ℕ, ◌+◌, ◌-◌, ◌<◌, Bool, true, false, List, [], ◌∷◌, length, slice_get, slice_index_or, Some, if◌then◌else◌, All, int_lt, unsigned_abs, ℤ, pos, ◌+ℤ◌, ◌-ℤ◌, ◌*ℤ◌, refl, sym, ap, ◌∙◌, subst, arith}
use Rattle.std.proofs.lemmas.List.{get_or-map, length-map}
use Rattle.std.proofs.lemmas.List.Elements.{All-append, All-cons, All-nil}
use Rattle.std.proofs.lemmas.Option.{get_or_from_slice_get, slice_get_within}
use Rattle.std.specs.Int.{int_min}
use Rattle.std.specs.List.{Any, range_with_len}
use Rattle.std.specs.Ordering.{int_eq}
use Rattle.exact_sums.specs.Sums.{total}
use Rattle.flow_types.specs.declared.flight.Flight.{Flight}
use Rattle.flow_types.specs.declared.parts.Parts.{Parts}
use Rattle.flow_types.specs.Valid.{IsScenario}
use Rattle.scaled_simplex.specs.Points.{point_cost}
use Rattle.scaled_simplex.specs.Program.{columns}
use Rattle.row_arena.proofs.WholeLaws.{less_times, linear, sum_times}
use Rattle.time_windows.specs.Boxes.{Box, IsBoxOf}
use Rattle.time_windows.specs.Tight.{IsTight}
use Rattle.time_windows.proofs.AnyFacts.{any_here, any_there}
use Rattle.bytime_model.specs.declared.names.RowName.{RowName}
use Rattle.bytime_model.specs.declared.variables.Term.{Term}
use Rattle.bytime_model.specs.declared.variables.Var.{Var}
use Rattle.bytime_model.specs.declared.variables.Var.TheVariants.{By}
use Rattle.bytime_model.specs.AllRows.{rows_of}
use Rattle.bytime_model.specs.CostRow.{cost_row, flight_terms, late_step, late_terms, most_late, most_wait, unless_zero, wait_step, wait_terms}
use Rattle.bytime_model.specs.Left.{left_of}
use Rattle.bytime_model.specs.Rows.{term_of}
use Rattle.bytime_model.proofs.KindLaws.{rows_each}
use Rattle.bytime_model.proofs.SmallFacts.{all_flat, all_over}
use Rattle.bytime_model.specs.Columns.{IsThere, IsWhole}
use Rattle.bytime_model.proofs.NumberFacts.{whole_box}
use Rattle.cut_rows.specs.declared.names.CutName.{CutName}
use Rattle.cut_rows.specs.Pools.{IsPoolOf, cut_names, is_row_with, row_with, rows_with}
use Rattle.cut_rows.proofs.PoolRows.{there_with}
use Rattle.presolve.specs.Landed.{coefficient_of, fixed_of}
use Rattle.presolve.specs.Points.{AgreesOver, form_at, relaxation_cost, turned}
use Rattle.presolve.specs.Relaxed.{cost_in, flipped_of, kept_row, program_of, row_in}
use Rattle.presolve.specs.Variables.{columns_of}
use Rattle.presolve.proofs.DualityFacts.{costs_in_range, over}
use Rattle.presolve.proofs.FlipFacts.{IsPointAt, flip_over, one_cost, row_value, unflipped}
use Rattle.presolve.proofs.LandedFacts.{landed_value}
use Rattle.presolve.proofs.PoolFacts.{cuts_there, day_row}
use Rattle.presolve.proofs.SumLaws.{range_items, total_less}

-- what holds of whatever is in a list
pub every : {X : Type 0} (P : X → Type 0) (xs : List X)
    → ((x : X) → Any (λ y. y ≡ x) xs → P x) → All P xs
every P [] each = All-nil P
every P (x ∷ xs) each =
    All-cons P x xs (each x (any_here (λ y. y ≡ x) x xs refl))
    (every P xs (λ z any. each z (any_there (λ y. y ≡ z) x xs any)))

-- the program has as many columns
pub few : (parts : Parts) (pool : List CutName) (box : Box)
    → length (columns_of parts box) ≡ columns (program_of parts pool box)
few parts pool box =
    sym (length-map (columns_of parts box)
    (λ column. pos (unsigned_abs (cost_in parts box column))))

-- each of the names is of a row
pub rows_are : (parts : Parts) (pool : List CutName) → IsPoolOf parts pool
    → All (λ name. is_row_with parts pool name ≡ true) (rows_with parts pool)
rows_are parts pool cuts =
    All-append (λ name. is_row_with parts pool name ≡ true) (rows_of parts) (cut_names pool)
    (every (λ name. is_row_with parts pool name ≡ true) (rows_of parts)
    (λ name any. day_row parts pool name ((rows_each parts name).0 any)))
    (cuts_there parts pool cuts)

-- the cost row has variables of entering alone
module _ (parts : Parts) where
  abbrev Has : Term → Type 0
  Has term = IsThere parts.flights term.variable

  steps_there : (step : ℕ → ℤ) (f n from : ℕ) (delay : ℕ)
      → All Has (unless_zero (step delay) (By f n (from + delay)))
  steps_there step f n from delay = by (int_eq (step delay) (pos 0))
    where
      by : (b : Bool)
          → All Has (if b then [] else term_of (step delay) (By f n (from + delay)) ∷ [])
      by true = All-nil Has
      by false = All-cons Has (term_of (step delay) (By f n (from + delay))) [] tt (All-nil Has)

  flight_there : (number : ℕ) (flight : Flight)
      → All Has (flight_terms parts.tables parts.day.periods number flight)
  flight_there number flight =
      All-append Has (late_terms parts.tables parts.day.periods number flight)
      (wait_terms parts.tables parts.day.periods number flight)
      (all_flat Has
      (λ delay. unless_zero (late_step parts.tables flight delay)
      (By number (length flight.nodes - 1) (flight.sa + delay)))
      (range_with_len 0 (most_late parts.day.periods flight))
      (steps_there (late_step parts.tables flight) number (length flight.nodes - 1) flight.sa))
      (all_flat Has
      (λ delay. unless_zero (wait_step parts.tables flight delay)
      (By number 0 (flight.sd + delay)))
      (range_with_len 0 (most_wait parts.day.periods flight))
      (steps_there (wait_step parts.tables flight) number 0 flight.sd))

  pub cost_there : All Has (cost_row parts).terms
  cost_there =
      all_over Has (flight_terms parts.tables parts.day.periods) 0 parts.flights flight_there

module _ (parts : Parts) (pool : List CutName) (scenario : IsScenario parts) (box : Box)
    (made : IsBoxOf parts box) (tight : IsTight parts box) (value : Var → ℤ) (denominator : ℤ)
    (agree : (variable : Var)
    → AgreesOver denominator value variable (left_of parts.flights box variable))
    (numerator : ℕ → ℤ)
    (point : IsPointAt (columns_of parts box) value 0
    (unflipped (flipped_of parts box) numerator denominator)) where
  abbrev all_columns : List Var
  all_columns = columns_of parts box

  abbrev flips : List Bool
  flips = flipped_of parts box

  whole : IsWhole parts.flights box
  whole = whole_box parts box made tight

  -- a row is as far above its limit as over the columns' variables, and as over the columns
  pub landed_over : (name : RowName) → is_row_with parts pool name ≡ true
      → over (unflipped flips numerator denominator) denominator (row_in parts pool box name)
      ≡ form_at value (row_with parts pool name).terms
      -ℤ ((row_with parts pool name).limit *ℤ denominator)
  landed_over name is =
      let terms = (row_with parts pool name).terms in
      let left = row_value (coefficient_of parts box terms) all_columns value 0
      (unflipped flips numerator denominator) point in
      let landed = landed_value parts scenario box made whole value denominator agree terms
      (there_with parts pool name scenario is) in
      let limit = less_times (row_with parts pool name).limit (fixed_of parts box terms)
      denominator in
      omega (arith, linear, left, landed, limit)

  pub kept_over : (name : RowName) → is_row_with parts pool name ≡ true
      → over numerator denominator (kept_row parts pool box name)
      ≡ form_at value (row_with parts pool name).terms
      -ℤ ((row_with parts pool name).limit *ℤ denominator)
  kept_over name is =
      flip_over flips numerator denominator (row_in parts pool box name) ∙ landed_over name is

  -- the costs of the columns
  cost_at : (i k : ℕ) (column : Var) → k ≡ 0 + i → slice_get all_columns i ≡ Some column
      → slice_index_or (program_of parts pool box).costs k (pos 0) *ℤ numerator k
      ≡ (cost_in parts box column *ℤ value column)
      -ℤ (int_min (pos 0) (cost_in parts box column) *ℤ denominator)
  cost_at i k column same here =
      let e : i ≡ k = omega (arith, same) in
      let within : k < length all_columns =
      omega (arith, slice_get_within all_columns i column here, same) in
      let is = subst (λ n. slice_index_or all_columns n (By 0 0 0) ≡ column) e
      (get_or_from_slice_get all_columns i column (By 0 0 0) here) in
      let size = get_or-map (λ c. pos (unsigned_abs (cost_in parts box c))) all_columns k
      (By 0 0 0) (pos 0) within ∙ ap (λ c. pos (unsigned_abs (cost_in parts box c))) is in
      let flip = get_or-map (λ c. int_lt (cost_in parts box c) (pos 0)) all_columns k (By 0 0 0)
      false within ∙ ap (λ c. int_lt (cost_in parts box c) (pos 0)) is in
      let low = int_min (pos 0) (cost_in parts box column) *ℤ denominator in
      ap (λ n. n *ℤ numerator k) size
      ∙ one_cost (cost_in parts box column) denominator (numerator k)
      ∙ ap (λ b. (cost_in parts box column *ℤ turned denominator b (numerator k)) -ℤ low)
      (sym flip)
      ∙ ap (λ n. (cost_in parts box column *ℤ n) -ℤ low) (point.at i k column same here)

  pub same_cost : point_cost (program_of parts pool box) numerator denominator
      ≡ relaxation_cost parts value denominator
  same_cost =
      let constant = (cost_row parts).constant in
      let fixed = fixed_of parts box (cost_row parts).terms in
      let low = total (λ column. int_min (pos 0) (cost_in parts box column)) all_columns in
      let paid : ℕ → ℤ = λ k. slice_index_or (program_of parts pool box).costs k (pos 0)
      *ℤ numerator k in
      let all = costs_in_range numerator denominator (program_of parts pool box).costs in
      let many = ap (λ n. total paid (range_with_len 0 n)) (length-map all_columns
      (λ column. pos (unsigned_abs (cost_in parts box column)))) in
      let costs = range_items paid
      (λ column. (cost_in parts box column *ℤ value column)
      -ℤ (int_min (pos 0) (cost_in parts box column) *ℤ denominator)) 0 all_columns cost_at in
      let less = total_less (λ column. cost_in parts box column *ℤ value column)
      (λ column. int_min (pos 0) (cost_in parts box column)) denominator all_columns in
      let landed = landed_value parts scenario box made whole value denominator agree
      (cost_row parts).terms (cost_there parts) in
      let both = sum_times (constant +ℤ fixed) low denominator in
      let first = sum_times constant fixed denominator in
      omega (arith, linear, all, many, costs, less, landed, both, first)
