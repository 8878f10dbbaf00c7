-- Weak duality: what multipliers tell of a program is no more than what columns of 0 or more cost,
-- with what each constraint is exceeded, as often as its multiplier says. The columns are
-- numerators over one denominator.
use Rattle.std.proofs.Common.{◌≡◌, ℕ, suc, ◌+◌, ◌<◌, List, [], ◌∷◌, length, slice_get, slice_index_or, Some, All, ℤ, pos, ◌+ℤ◌, ◌-ℤ◌, ◌*ℤ◌, ◌≤ℤ◌, refl, sym, ap, ap₂, ◌∙◌, subst, arith}
use Rattle.std.proofs.lemmas.List.Elements.{All-tail}
use Rattle.std.proofs.lemmas.Option.{get_or_from_slice_get}
use Rattle.std.specs.List.{range_with_len}
use Rattle.exact_sums.specs.Sums.{total}
use Rattle.exact_sums.proofs.SumFacts.{total-both}
use Rattle.row_arena.specs.declared.entry.Entry.{Entry}
use Rattle.row_arena.specs.Rows.{entry_at, value_in}
use Rattle.scaled_simplex.specs.Multipliers.{AreMultipliers, weighted}
use Rattle.scaled_simplex.specs.Points.{costs_at, point_cost, terms_at}
use Rattle.scaled_simplex.specs.Program.{Constraint, Problem, columns}
use Rattle.scaled_simplex.proofs.EntryLaws.{value_other, value_same}
use Rattle.row_arena.proofs.WholeLaws.{less_times, linear, low_times, sum_times, times_assoc, times_less, times_sum, zero_times}
use Rattle.presolve.proofs.SumLaws.{range_low, range_one, total_same, total_times, total_zero}

module _ (numerator : ℕ → ℤ) (denominator : ℤ) where
  -- how far a constraint is above its limit
  abbrev pub over : Constraint → ℤ
  over constraint = terms_at constraint.terms numerator -ℤ (constraint.limit *ℤ denominator)

  -- the left side by columns
  abbrev by_column : List Entry → ℕ → ℤ
  by_column terms column = entry_at terms column *ℤ numerator column

  one_entry : (count : ℕ) (entry : Entry) → entry.column < count
      → total (λ j. value_in j entry *ℤ numerator j) (range_with_len 0 count)
      ≡ entry.value *ℤ numerator entry.column
  one_entry count entry within =
      range_one (λ j. value_in j entry *ℤ numerator j) entry.column 0 count (omega arith)
      (omega (arith, within))
      (λ i other. ap (λ n. n *ℤ numerator i) (value_other i entry (λ same. other (sym same)))
      ∙ zero_times (numerator i))
      ∙ ap (λ n. n *ℤ numerator entry.column) (value_same entry.column entry refl)

  left_by_column : (count : ℕ) (terms : List Entry) → All (λ entry. entry.column < count) terms
      → terms_at terms numerator ≡ total (by_column terms) (range_with_len 0 count)
  left_by_column count [] within =
      sym (total_zero (by_column []) (range_with_len 0 count) (λ j. zero_times (numerator j)))
  left_by_column count (entry ∷ terms) within =
      let here = one_entry count entry (within 0 entry (omega arith)) in
      let more = left_by_column count terms
      (All-tail (λ (e : Entry). e.column < count) entry terms within) in
      let both = total-both (λ j. value_in j entry *ℤ numerator j) (by_column terms)
      (range_with_len 0 count) in
      let split = total_same (by_column (entry ∷ terms))
      (λ j. (value_in j entry *ℤ numerator j) +ℤ by_column terms j) (range_with_len 0 count)
      (λ j. sum_times (value_in j entry) (entry_at terms j) (numerator j)) in
      omega (arith, linear, here, more, both, split)

  -- of all constraints
  abbrev weighted_at : List ℤ → List Constraint → ℕ → ℤ
  weighted_at multipliers constraints column =
      weighted (λ constraint. entry_at constraint.terms column) multipliers constraints

  abbrev AreWithin : ℕ → List Constraint → Type 0
  AreWithin count constraints =
      All (λ constraint. All (λ entry. entry.column < count) constraint.terms) constraints

  weighted_left : (count : ℕ) (multipliers : List ℤ) (constraints : List Constraint)
      → AreWithin count constraints
      → weighted (λ constraint. terms_at constraint.terms numerator) multipliers constraints
      ≡ total (λ j. weighted_at multipliers constraints j *ℤ numerator j) (range_with_len 0 count)
  weighted_left count [] constraints within =
      sym (total_zero (λ j. pos 0 *ℤ numerator j) (range_with_len 0 count)
      (λ j. zero_times (numerator j)))
  weighted_left count (y ∷ multipliers) [] within =
      sym (total_zero (λ j. pos 0 *ℤ numerator j) (range_with_len 0 count)
      (λ j. zero_times (numerator j)))
  weighted_left count (y ∷ multipliers) (c ∷ constraints) within =
      let here = ap (λ n. y *ℤ n) (left_by_column count c.terms (within 0 c (omega arith))) in
      let times = total_times y (by_column c.terms) (range_with_len 0 count) in
      let more = weighted_left count multipliers constraints
      (All-tail (λ (d : Constraint). All (λ (e : Entry). e.column < count) d.terms) c constraints
      within) in
      let rest : ℕ → ℤ = λ j. weighted_at multipliers constraints j *ℤ numerator j in
      let both = total-both (λ j. y *ℤ by_column c.terms j) rest (range_with_len 0 count) in
      let split = total_same
      (λ j. weighted_at (y ∷ multipliers) (c ∷ constraints) j *ℤ numerator j)
      (λ j. (y *ℤ by_column c.terms j) +ℤ rest j) (range_with_len 0 count)
      (λ j. sum_times (y *ℤ entry_at c.terms j) (weighted_at multipliers constraints j)
      (numerator j)
      ∙ ap (λ n. n +ℤ rest j) (times_assoc y (entry_at c.terms j) (numerator j))) in
      omega (arith, linear, here, times, more, both, split)

  weighted_over : (multipliers : List ℤ) (constraints : List Constraint)
      → weighted over multipliers constraints
      ≡ weighted (λ constraint. terms_at constraint.terms numerator) multipliers constraints
      -ℤ (weighted (λ constraint. constraint.limit) multipliers constraints *ℤ denominator)
  weighted_over [] constraints = omega (arith, linear, zero_times denominator)
  weighted_over (y ∷ multipliers) [] = omega (arith, linear, zero_times denominator)
  weighted_over (y ∷ multipliers) (c ∷ constraints) =
      let limits = weighted (λ constraint. constraint.limit) multipliers constraints in
      omega (
        arith,
        linear,
        times_less y (terms_at c.terms numerator) (c.limit *ℤ denominator),
        times_assoc y c.limit denominator,
        sum_times (y *ℤ c.limit) limits denominator,
        weighted_over multipliers constraints,
      )

  -- the costs of all columns
  costs_from : (from : ℕ) (costs all : List ℤ)
      → ((i k : ℕ) (cost : ℤ) → k ≡ from + i → slice_get costs i ≡ Some cost
      → slice_index_or all k (pos 0) ≡ cost)
      → total (λ j. slice_index_or all j (pos 0) *ℤ numerator j)
      (range_with_len from (length costs)) ≡ costs_at numerator from costs
  costs_from from [] all are = refl
  costs_from from (cost ∷ costs) all are =
      ap₂ (λ (a b : ℤ). (a *ℤ numerator from) +ℤ b) (are 0 from cost (omega arith) refl)
      (costs_from (from + 1) costs all
      (λ i k c same here. are (suc i) k c (omega (arith, same)) here))

  pub costs_in_range : (costs : List ℤ)
      → total (λ j. slice_index_or costs j (pos 0) *ℤ numerator j)
      (range_with_len 0 (length costs)) ≡ costs_at numerator 0 costs
  costs_in_range costs = costs_from 0 costs costs item
    where
      item : (i k : ℕ) (c : ℤ) → k ≡ 0 + i → slice_get costs i ≡ Some c
          → slice_index_or costs k (pos 0) ≡ c
      item i k c same here =
          let e : i ≡ k = omega (arith, same) in
          subst (λ n. slice_index_or costs n (pos 0) ≡ c) e
          (get_or_from_slice_get costs i c (pos 0) here)

  pub weakly_dual : ((j : ℕ) → pos 0 ≤ℤ numerator j) → (problem : Problem) (weight : ℤ)
      (multipliers : List ℤ) (value : ℤ) → AreMultipliers problem weight multipliers value
      → All (λ constraint. All (λ entry. entry.column < columns problem) constraint.terms)
      problem.constraints
      → (value *ℤ denominator) ≤ℤ ((weight *ℤ point_cost problem numerator denominator)
      +ℤ weighted over multipliers problem.constraints)
  weakly_dual least problem weight multipliers value are within =
      let count = columns problem in
      let limits = weighted (λ constraint. constraint.limit) multipliers problem.constraints in
      let cost : ℕ → ℤ = λ j. slice_index_or problem.costs j (pos 0) in
      let costs = costs_in_range problem.costs in
      let paid : ℕ → ℤ = λ j. weight *ℤ (cost j *ℤ numerator j) in
      let added : ℕ → ℤ = λ j. weighted_at multipliers problem.constraints j *ℤ numerator j in
      let times = total_times weight (λ j. cost j *ℤ numerator j) (range_with_len 0 count) in
      let left = weighted_left count multipliers problem.constraints within in
      let less = weighted_over multipliers problem.constraints in
      let both = total-both paid added (range_with_len 0 count) in
      let low = range_low (λ j. paid j +ℤ added j) 0 count (λ j past before.
      subst (λ n. pos 0 ≤ℤ n) (joined j)
      (low_times ((weight *ℤ cost j) +ℤ weighted_at multipliers problem.constraints j) (numerator j)
      (are.columns j (omega (arith, before))) (least j))) in
      let scaled = ap (λ n. weight *ℤ n) costs in
      let sum = times_sum weight (problem.constant *ℤ denominator)
      (costs_at numerator 0 problem.costs) in
      let constant = times_assoc weight problem.constant denominator in
      let worth = ap (λ n. n *ℤ denominator) are.worth in
      let parts = less_times (weight *ℤ problem.constant) limits denominator in
      omega (arith, linear, times, scaled, left, less, both, low, sum, constant, worth, parts)
    where
      joined : (j : ℕ)
          → ((weight *ℤ slice_index_or problem.costs j (pos 0))
          +ℤ weighted_at multipliers problem.constraints j) *ℤ numerator j
          ≡ (weight *ℤ (slice_index_or problem.costs j (pos 0) *ℤ numerator j))
          +ℤ (weighted_at multipliers problem.constraints j *ℤ numerator j)
      joined j =
          sum_times (weight *ℤ slice_index_or problem.costs j (pos 0))
          (weighted_at multipliers problem.constraints j) (numerator j)
          ∙ ap (λ n. n +ℤ (weighted_at multipliers problem.constraints j *ℤ numerator j))
          (times_assoc weight (slice_index_or problem.costs j (pos 0)) (numerator j))
