-- What each row of a tableau keeps: a row is the constraints, each so often as it has the index of
-- what that one leaves, and the costs, so often as it has their weight. So for each column, and for
-- the limits, a sum of its entries is 0.
use Rattle.std.proofs.Common.{◌≡◌, ℕ, ◌+◌, ◌<◌, List, [], ◌∷◌, slice_index_or, ℤ, pos, neg_ℤ, ◌+ℤ◌, ◌-ℤ◌, ◌*ℤ◌, ◌<ℤ◌, sym, ap, ap₂, ◌∙◌, arith}
use Rattle.row_arena.specs.declared.entry.Entry.{Entry}
use Rattle.row_arena.specs.Rows.{entry_at}
use Rattle.scaled_simplex.specs.Program.{Constraint, Problem, columns}
use Rattle.scaled_simplex.specs.Tableau.{right_side, weight_index}
use Rattle.row_arena.proofs.WholeLaws.{less_times, linear, times_assoc, times_less, times_sum, times_zero, zero_back}

-- a number of each constraint, times what is at its index, added up
abbrev pub over_constraints : (Constraint → ℤ) → (ℕ → ℤ) → ℕ → List Constraint → ℤ
over_constraints part f k [] = pos 0
over_constraints part f k (constraint ∷ constraints) =
    (f k *ℤ part constraint) +ℤ over_constraints part f (k + 1) constraints

module _ (problem : Problem) where
  -- what is at an index, with the weighted cost, less what the constraints add up to
  abbrev pub rest_of : (Constraint → ℤ) → ℤ → ℕ → (ℕ → ℤ) → ℤ
  rest_of part cost index f =
      (f index +ℤ (f (weight_index problem) *ℤ cost))
      -ℤ over_constraints part f (columns problem) problem.constraints

  abbrev pub column_rest : ℕ → (ℕ → ℤ) → ℤ
  column_rest column f =
      rest_of (λ constraint. entry_at constraint.terms column)
      (slice_index_or problem.costs column (pos 0)) column f

  abbrev pub limit_rest : (ℕ → ℤ) → ℤ
  limit_rest f =
      rest_of (λ constraint. constraint.limit) (neg_ℤ problem.constant) (right_side problem) f

  pub record IsMade (row : List Entry) : Type 0 where
    pub columns_left : (column : ℕ) → column < columns problem
        → column_rest column (entry_at row) ≡ pos 0
    pub limits_left : limit_rest (entry_at row) ≡ pos 0

-- A row that is, so often, one row so often less another so often.
module _ (d p a : ℤ) (f g h : ℕ → ℤ)
    (each : (k : ℕ) → d *ℤ h k ≡ (p *ℤ f k) -ℤ (a *ℤ g k)) where
  pub factor_combined : (k : ℕ) (c : ℤ)
      → d *ℤ (h k *ℤ c) ≡ (p *ℤ (f k *ℤ c)) -ℤ (a *ℤ (g k *ℤ c))
  factor_combined k c =
      sym (times_assoc d (h k) c) ∙ ap (λ n. n *ℤ c) (each k)
      ∙ less_times (p *ℤ f k) (a *ℤ g k) c
      ∙ ap₂ (λ x y. x -ℤ y) (times_assoc p (f k) c) (times_assoc a (g k) c)

  over_combined : (part : Constraint → ℤ) (k : ℕ) (constraints : List Constraint)
      → d *ℤ over_constraints part h k constraints
      ≡ (p *ℤ over_constraints part f k constraints)
      -ℤ (a *ℤ over_constraints part g k constraints)
  over_combined part k [] =
      omega (arith, linear, times_zero d, times_zero p, times_zero a)
  over_combined part k (c ∷ constraints) =
      let here = factor_combined k (part c) in
      let more = over_combined part (k + 1) constraints in
      let one = times_sum d (h k *ℤ part c) (over_constraints part h (k + 1) constraints) in
      let two = times_sum p (f k *ℤ part c) (over_constraints part f (k + 1) constraints) in
      let three = times_sum a (g k *ℤ part c) (over_constraints part g (k + 1) constraints) in
      omega (arith, linear, here, more, one, two, three)

  split : (problem : Problem) (part : Constraint → ℤ) (cost : ℤ) (index : ℕ) (t : ℤ) (v : ℕ → ℤ)
      → t *ℤ rest_of problem part cost index v
      ≡ ((t *ℤ v index) +ℤ (t *ℤ (v (weight_index problem) *ℤ cost)))
      -ℤ (t *ℤ over_constraints part v (columns problem) problem.constraints)
  split problem part cost index t v =
      let paid = v (weight_index problem) *ℤ cost in
      let one = times_less t (v index +ℤ paid)
      (over_constraints part v (columns problem) problem.constraints) in
      let two = times_sum t (v index) paid in omega (arith, linear, one, two)

  rest_combined : (problem : Problem) (part : Constraint → ℤ) (cost : ℤ) (index : ℕ)
      → d *ℤ rest_of problem part cost index h
      ≡ (p *ℤ rest_of problem part cost index f) -ℤ (a *ℤ rest_of problem part cost index g)
  rest_combined problem part cost index =
      let one = split problem part cost index d h in
      let two = split problem part cost index p f in
      let three = split problem part cost index a g in
      let here = each index in
      let paid = factor_combined (weight_index problem) cost in
      let over = over_combined part (columns problem) problem.constraints in
      omega (arith, linear, one, two, three, here, paid, over)

  rest_kept : (problem : Problem) (part : Constraint → ℤ) (cost : ℤ) (index : ℕ) → pos 0 <ℤ d
      → rest_of problem part cost index f ≡ pos 0 → rest_of problem part cost index g ≡ pos 0
      → rest_of problem part cost index h ≡ pos 0
  rest_kept problem part cost index above first second =
      let both = rest_combined problem part cost index in
      let one = ap (λ n. p *ℤ n) first in
      let two = ap (λ n. a *ℤ n) second in
      zero_back d (rest_of problem part cost index h) above
      (omega (arith, linear, both, one, two, times_zero p, times_zero a))

pub made_combined : (problem : Problem) (d p a : ℤ) (first second row : List Entry)
    → ((k : ℕ) → d *ℤ entry_at row k ≡ (p *ℤ entry_at first k) -ℤ (a *ℤ entry_at second k))
    → pos 0 <ℤ d → IsMade problem first → IsMade problem second → IsMade problem row
made_combined problem d p a first second row each above one two = record {
  columns_left = λ column within.
      rest_kept d p a (entry_at first) (entry_at second) (entry_at row) each problem
      (λ constraint. entry_at constraint.terms column)
      (slice_index_or problem.costs column (pos 0)) column above
      (one.columns_left column within) (two.columns_left column within);
  limits_left =
      rest_kept d p a (entry_at first) (entry_at second) (entry_at row) each problem
      (λ constraint. constraint.limit) (neg_ℤ problem.constant) (right_side problem) above
      one.limits_left two.limits_left;
}
