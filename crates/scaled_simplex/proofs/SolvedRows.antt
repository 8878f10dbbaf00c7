-- With the right side of each row divided by its entry at the index that it stands for, and all
-- other indices at 0, each row of the last tableau is solved, and so is each row of the first one:
-- that of a constraint says that the constraint is kept, and the cost row what the point costs.
use Rattle.std.proofs.Common.{◌≡◌, ◌⊎◌, inl, inr, ℕ, suc, ◌+◌, ◌<◌, ◌≤◌, List, [], ◌∷◌, ◌++◌, length, slice_get, slice_index, slice_index_or, Some, ℤ, pos, neg_ℤ, ◌+ℤ◌, ◌-ℤ◌, ◌*ℤ◌, ◌≤ℤ◌, ◌<ℤ◌, refl, sym, ap, ◌∙◌, subst, arith}
use Rattle.std.proofs.lemmas.Option.{get_or_from_slice_get}
use Rattle.exact_sums.proofs.SumFacts.{total-append}
use Rattle.row_arena.specs.declared.entry.Entry.{Entry}
use Rattle.row_arena.specs.Arena.{row_at}
use Rattle.row_arena.specs.Rows.{entry_at, row_from, unless_zero}
use Rattle.scaled_simplex.specs.Board.{IsBasic}
use Rattle.scaled_simplex.specs.Derived.{AreSolved, IsDerived, row_with}
use Rattle.scaled_simplex.specs.Points.{ConstraintHolds, IsProgramPoint, costs_at, point_cost, terms_at}
use Rattle.scaled_simplex.specs.Program.{Constraint, IsProblem, Problem, columns}
use Rattle.scaled_simplex.specs.Run.{cost_at, last_row, right_at}
use Rattle.scaled_simplex.specs.Tableau.{Tableau, bare_row, constraint_row, cost_row, first_tableau, one_at, right_side, weight_index}
use Rattle.scaled_simplex.proofs.EntryLaws.{entry_append, value_other, value_same}
use Rattle.scaled_simplex.proofs.FirstTableau.{last_is, row_is, there, valid_at}
use Rattle.scaled_simplex.proofs.HeldValues.{AreShares, held, held_low, held_none, held_one, held_past, held_times}
use Rattle.row_arena.proofs.WholeLaws.{linear, neg_times, times_comm, times_less, times_moved, times_neg, times_sum, times_zero, zero_back, zero_times}
use Rattle.scaled_simplex.proofs.RowValues.{terms_append, terms_one, terms_times, terms_unless, with_across}

-- what the columns cost is what the cost row has of them, turned round
module _ (f : ℕ → ℤ) where
  pub costs_turned : (cost : ℕ → ℤ) (costs : List ℤ) (from : ℕ)
      → ((i : ℕ) → i < length costs → cost (from + i) ≡ neg_ℤ (slice_index_or costs i (pos 0)))
      → terms_at (row_from cost from (length costs)) f ≡ neg_ℤ (costs_at f from costs)
  costs_turned cost [] from each = refl
  costs_turned cost (c ∷ costs) from each =
      let first = terms_unless f from (cost from) in
      let own = ap (λ n. n *ℤ f from) (ap cost (plus_none from) ∙ each 0 (omega arith)) in
      let turned = neg_times c (f from) in
      let more = costs_turned cost costs (from + 1)
      (λ i small. ap cost (moved from i) ∙ each (suc i) (omega (arith, small))) in
      let both = terms_append f (unless_zero from (cost from))
      (row_from cost (from + 1) (length costs)) in
      omega (arith, linear, first, own, turned, more, both)
    where
      plus_none : (a : ℕ) → a ≡ a + 0
      plus_none a = omega arith

      moved : (a i : ℕ) → a + 1 + i ≡ a + suc i
      moved a i = omega arith

  pub costs_times : (weight : ℤ) (g : ℕ → ℤ) (costs : List ℤ) (from : ℕ)
      → ((i : ℕ) → from ≤ i → i < from + length costs → g i ≡ weight *ℤ f i)
      → costs_at g from costs ≡ weight *ℤ costs_at f from costs
  costs_times weight g [] from each = sym (times_zero weight)
  costs_times weight g (c ∷ costs) from each =
      let here = ap (λ n. c *ℤ n) (each from (omega arith) (omega arith))
      ∙ times_moved c weight (f from) in
      let more = costs_times weight g costs (from + 1)
      (λ i since below. each i (omega (arith, since)) (omega (arith, below))) in
      let both = times_sum weight (c *ℤ f from) (costs_at f (from + 1) costs) in
      omega (arith, linear, here, more, both)

-- what a row has at the index that it stands for
abbrev pub entry_of : Tableau → ℕ → ℤ
entry_of tableau k = entry_at (row_at tableau.rows k) (slice_index tableau.basis k)

-- the values of the indices over one denominator
abbrev pub numerator_of : Problem → Tableau → (ℕ → ℤ) → ℕ → ℤ
numerator_of problem tableau share =
    entry_at (held tableau.basis share (length problem.constraints))

module _ (problem : Problem) (tableau : Tableau) (share : ℕ → ℤ) (denominator : ℤ) where
  abbrev weight : ℤ
  weight = cost_at problem tableau (weight_index problem)

  abbrev value : ℤ
  value = cost_at problem tableau (right_side problem)

  abbrev numerator : ℕ → ℤ
  numerator = numerator_of problem tableau share

  -- what solves the rows: the point, and what it costs, as often as the weight
  abbrev paid : List Entry
  paid =
      record { column = right_side problem; value = neg_ℤ (weight *ℤ denominator) }
      ∷ record { column = weight_index problem; value = denominator *ℤ value } ∷ []

  abbrev values : List Entry
  values =
      held tableau.basis (λ k. weight *ℤ share k) (length problem.constraints) ++ paid

  with_paid : (row : List Entry) → row_with values row
      ≡ row_with (held tableau.basis (λ k. weight *ℤ share k) (length problem.constraints)) row
      +ℤ ((entry_at row (right_side problem) *ℤ neg_ℤ (weight *ℤ denominator))
      +ℤ (entry_at row (weight_index problem) *ℤ (denominator *ℤ value)))
  with_paid row =
      let both = total-append (λ (v : Entry). entry_at row v.column *ℤ v.value)
      (held tableau.basis (λ k. weight *ℤ share k) (length problem.constraints)) paid in
      omega (arith, linear, both)

  module _ (cells : ℕ) (basic : IsBasic problem tableau)
      (derived : IsDerived problem cells tableau)
      (are : AreShares (entry_of tableau) (right_at problem tableau)
      (length problem.constraints) share denominator) where
    constraint_solved : (k : ℕ) → k < length problem.constraints
        → row_with values (row_at tableau.rows k) ≡ pos 0
    constraint_solved k small =
        let row = row_at tableau.rows k in
        let right = right_at problem tableau k in
        let all = with_paid row in
        let own = held_one tableau.basis (λ k. weight *ℤ share k) row k
        (length problem.constraints) small
        (λ i below other. basic.apart i k below (omega (arith, small)) (λ e. other (sym e))) in
        let once = times_moved (entry_of tableau k) weight (share k)
        ∙ ap (λ n. weight *ℤ n) (are.each k small) ∙ times_moved weight right denominator in
        let turned = times_neg right (weight *ℤ denominator) in
        let none = ap (λ n. n *ℤ (denominator *ℤ value)) (derived.weightless k small) in
        let zero_none = zero_times (denominator *ℤ value) in
        omega (arith, linear, all, own, once, turned, none, zero_none)

    costs_solved : row_with values (last_row problem tableau) ≡ pos 0
    costs_solved =
        let row = last_row problem tableau in
        let all = with_paid row in
        let none = held_none tableau.basis (λ k. weight *ℤ share k) row (length problem.constraints)
        (λ j small. basic.apart j (length problem.constraints) small (omega arith)
        (λ e. omega (arith, e, small))) in
        let turned = times_neg value (weight *ℤ denominator) in
        let same = times_moved value weight denominator
        ∙ ap (λ n. weight *ℤ n) (times_comm value denominator) in
        omega (arith, linear, all, none, turned, same)

    last_solved : AreSolved problem tableau.rows values
    last_solved = record { each = λ k small. by k (order k (length problem.constraints) small) }
      where
        order : (k m : ℕ) → k < m + 1 → (k < m) ⊎ (k ≡ m)
        order k m small = grind arith

        by : (k : ℕ) → (k < length problem.constraints) ⊎ (k ≡ length problem.constraints)
            → row_with values (row_at tableau.rows k) ≡ pos 0
        by k (inl small) = constraint_solved k small
        by k (inr last) =
            subst (λ n. row_with values (row_at tableau.rows n) ≡ pos 0) (sym last) costs_solved

    first_solved : AreSolved problem (first_tableau problem).rows values
    first_solved = derived.back values last_solved

    module _ (valid : IsProblem problem) (positive : pos 0 <ℤ weight)
        (inside : (k : ℕ) → k < length problem.constraints
        → slice_index tableau.basis k < right_side problem)
        (low : (k : ℕ) → k < length problem.constraints → pos 0 ≤ℤ share k) where
      abbrev solution : ℕ → ℤ
      solution = entry_at values

      parts : (index : ℕ) → solution index
          ≡ entry_at (held tableau.basis (λ k. weight *ℤ share k) (length problem.constraints))
          index +ℤ entry_at paid index
      parts index =
          entry_append (held tableau.basis (λ k. weight *ℤ share k) (length problem.constraints))
          paid index

      abbrev right_paid : Entry
      right_paid =
          record { column = right_side problem; value = neg_ℤ (weight *ℤ denominator) }

      abbrev weight_paid : Entry
      weight_paid = record { column = weight_index problem; value = denominator *ℤ value }

      at_below : (index : ℕ) → index < right_side problem
          → solution index ≡ weight *ℤ numerator index
      at_below index below =
          let all = parts index in
          let one = value_other index right_paid (λ e. omega (arith, e, below)) in
          let two = value_other index weight_paid (λ e. omega (arith, e, below)) in
          let times = held_times tableau.basis weight share (length problem.constraints) index in
          omega (arith, linear, all, one, two, times)

      at_right : solution (right_side problem) ≡ neg_ℤ (weight *ℤ denominator)
      at_right =
          let all = parts (right_side problem) in
          let none = held_past tableau.basis (λ k. weight *ℤ share k) (length problem.constraints)
          (right_side problem) inside in
          let one = value_same (right_side problem) right_paid refl in
          let two = value_other (right_side problem) weight_paid (λ e. omega (arith, e)) in
          omega (arith, linear, all, none, one, two)

      at_weight : solution (weight_index problem) ≡ denominator *ℤ value
      at_weight =
          let all = parts (weight_index problem) in
          let none = held_past tableau.basis (λ k. weight *ℤ share k) (length problem.constraints)
          (weight_index problem)
          (λ k small. let below = inside k small in omega (arith, below)) in
          let one = value_other (weight_index problem) right_paid (λ e. omega (arith, e)) in
          let two = value_same (weight_index problem) weight_paid refl in
          omega (arith, linear, all, none, one, two)

      numerator_low : (index : ℕ) → pos 0 ≤ℤ numerator index
      numerator_low index =
          held_low tableau.basis share (length problem.constraints) index low

      constraint_kept : (k : ℕ) → k < length problem.constraints → (c : Constraint)
          → slice_get problem.constraints k ≡ Some c → ConstraintHolds numerator denominator c
      constraint_kept k small c here =
          let solved : row_with values (constraint_row problem k c) ≡ pos 0 =
          subst (λ (r : List Entry). row_with values r ≡ pos 0) (row_is problem k small c here)
          (first_solved.each k (omega (arith, small))) in
          let across = with_across (constraint_row problem k c) values in
          let first = terms_append solution c.terms (one_at (columns problem + k)
          ++ unless_zero (right_side problem) c.limit) in
          let second = terms_append solution (one_at (columns problem + k))
          (unless_zero (right_side problem) c.limit) in
          let slack = terms_one solution (columns problem + k) in
          let limit = terms_unless solution (right_side problem) c.limit in
          let terms = terms_times weight numerator solution (columns problem) c.terms
          (valid_at problem k small valid c here).within
          (λ i less. at_below i (omega (arith, less))) in
          let left = at_below (columns problem + k) (omega (arith, small)) in
          let right = ap (λ n. c.limit *ℤ n) at_right in
          let turned = times_neg c.limit (weight *ℤ denominator) in
          let moved = times_moved c.limit weight denominator in
          let least = numerator_low (columns problem + k) in
          let used = terms_at c.terms numerator +ℤ numerator (columns problem + k) in
          let one = times_less weight (c.limit *ℤ denominator) used in
          let two = times_sum weight (terms_at c.terms numerator)
          (numerator (columns problem + k)) in
          let none = zero_back weight ((c.limit *ℤ denominator) -ℤ used) positive
          (omega (
            arith,
            linear,
            solved,
            across,
            first,
            second,
            slack,
            limit,
            terms,
            left,
            right,
            turned,
            moved,
            one,
            two,
          )) in
          omega (arith, linear, none, least)

      pub point_is : IsProgramPoint problem numerator denominator
      point_is = record {
        positive = are.positive;
        least = λ column _. numerator_low column;
        kept = λ k d small.
            let found = there problem k small in
            subst (ConstraintHolds numerator denominator)
            (sym (get_or_from_slice_get problem.constraints k found.0 d found.1))
            (constraint_kept k small found.0 found.1);
      }

      pub point_worth : point_cost problem numerator denominator *ℤ weight ≡ value *ℤ denominator
      point_worth =
          let solved : row_with values (cost_row problem) ≡ pos 0 =
          subst (λ (r : List Entry). row_with values r ≡ pos 0) (last_is problem)
          (first_solved.each (length problem.constraints) (omega arith)) in
          let across = with_across (cost_row problem) values in
          let cost : ℕ → ℤ = λ column. neg_ℤ (slice_index_or problem.costs column (pos 0)) in
          let first = terms_append solution (row_from cost 0 (columns problem))
          (bare_row problem) in
          let second = terms_append solution (unless_zero (right_side problem) problem.constant)
          (one_at (weight_index problem)) in
          let costs = costs_turned solution cost problem.costs 0
          (λ i small. ap cost (from_none i)) in
          let times = costs_times numerator weight solution problem.costs 0
          (λ i since small. at_below i (omega (arith, small))) in
          let constant = terms_unless solution (right_side problem) problem.constant in
          let last = terms_one solution (weight_index problem) in
          let right = ap (λ n. problem.constant *ℤ n) at_right in
          let turned = times_neg problem.constant (weight *ℤ denominator) in
          let moved = times_moved problem.constant weight denominator in
          let own = at_weight in
          let whole = times_comm (point_cost problem numerator denominator) weight in
          let both = times_sum weight (problem.constant *ℤ denominator)
          (costs_at numerator 0 problem.costs) in
          let same = times_comm value denominator in
          omega (
            arith,
            linear,
            solved,
            across,
            first,
            second,
            costs,
            times,
            constant,
            last,
            right,
            turned,
            moved,
            own,
            whole,
            both,
            same,
          )
        where
          from_none : (n : ℕ) → 0 + n ≡ n
          from_none n = omega arith
