-- The first tableau is lawful.
use Rattle.std.proofs.Common.{◌≡◌, ◌⊎◌, inl, inr, ℕ, zero, suc, ◌+◌, ◌<◌, ◌≤◌, List, [], ◌∷◌, ◌++◌, length, length-append, slice_get, slice_index_or, Some, None, All, ℤ, pos, neg_ℤ, ◌+ℤ◌, ◌*ℤ◌, ◌≤ℤ◌, refl, sym, ap, ap₂, ◌∙◌, subst, arith}
use Rattle.std.specs.List.{range_with_len}
use Rattle.std.proofs.lemmas.List.Elements.{All-cons, All-nil}
use Rattle.std.proofs.lemmas.List.FromFn.{length-range_with_len}
use Rattle.exact_sums.proofs.ItemFacts.{All-item, item_there}
use Rattle.row_arena.specs.declared.entry.Entry.{Entry}
use Rattle.row_arena.specs.Arena.{row_at, row_or_none}
use Rattle.row_arena.specs.Rows.{entry_at, row_from, unless_zero}
use Rattle.scaled_simplex.specs.Program.{Constraint, IsConstraint, IsProblem, Problem, columns}
use Rattle.scaled_simplex.specs.Tableau.{bare_row, constraint_row, constraint_rows, cost_row, first_tableau, one_at, right_side, weight_index}
use Rattle.scaled_simplex.proofs.ConstraintRows.{constraint_made, constraint_weightless, one_other, one_same, over_none}
use Rattle.scaled_simplex.proofs.Checks.{IsMade}
use Rattle.scaled_simplex.proofs.EntryLaws.{entry_append, row_from_at, row_from_past, unless_other, unless_same}
use Rattle.scaled_simplex.proofs.Lawful.{IsLawful}
use Rattle.row_arena.proofs.WholeLaws.{linear, one_times}

-- the row of what is paid, alone and with the costs
module _ (problem : Problem) where
  bare_parts : (i : ℕ) → entry_at (bare_row problem) i
      ≡ entry_at (unless_zero (right_side problem) problem.constant) i
      +ℤ entry_at (one_at (weight_index problem)) i
  bare_parts i =
      entry_append (unless_zero (right_side problem) problem.constant)
      (one_at (weight_index problem)) i

  pub bare_below : (i : ℕ) → i < right_side problem → entry_at (bare_row problem) i ≡ pos 0
  bare_below i below =
      let all = bare_parts i in
      let one = unless_other (right_side problem) problem.constant i
      (λ e. omega (arith, e, below)) in
      let two = one_other (weight_index problem) i (λ e. omega (arith, e, below)) in
      omega (arith, linear, all, one, two)

  pub bare_right : entry_at (bare_row problem) (right_side problem) ≡ problem.constant
  bare_right =
      let all = bare_parts (right_side problem) in
      let one = unless_same (right_side problem) problem.constant (right_side problem) refl in
      let two = one_other (weight_index problem) (right_side problem) (λ e. omega (arith, e)) in
      omega (arith, linear, all, one, two)

  pub bare_weight : entry_at (bare_row problem) (weight_index problem) ≡ pos 1
  bare_weight =
      let all = bare_parts (weight_index problem) in
      let one = unless_other (right_side problem) problem.constant (weight_index problem)
      (λ e. omega (arith, e)) in
      let two = one_same (weight_index problem) (weight_index problem) refl in
      omega (arith, linear, all, one, two)

  abbrev turned_cost : ℕ → ℤ
  turned_cost column = neg_ℤ (slice_index_or problem.costs column (pos 0))

  cost_parts : (i : ℕ) → entry_at (cost_row problem) i
      ≡ entry_at (row_from turned_cost 0 (columns problem)) i +ℤ entry_at (bare_row problem) i
  cost_parts i = entry_append (row_from turned_cost 0 (columns problem)) (bare_row problem) i

  cost_past : (i : ℕ) → columns problem ≤ i
      → entry_at (cost_row problem) i ≡ entry_at (bare_row problem) i
  cost_past i past =
      let all = cost_parts i in
      let none = row_from_past turned_cost 0 (columns problem) i (omega (arith, past)) in
      omega (arith, linear, all, none)

  cost_column : (i : ℕ) → i < columns problem
      → entry_at (cost_row problem) i ≡ neg_ℤ (slice_index_or problem.costs i (pos 0))
  cost_column i within =
      let all = cost_parts i in
      let own = row_from_at turned_cost 0 (columns problem) i (omega arith)
      (omega (arith, within)) in
      let none = bare_below i (omega (arith, within)) in
      omega (arith, linear, all, own, none)

  pub cost_slack : (i : ℕ) → columns problem ≤ i → i < right_side problem
      → entry_at (cost_row problem) i ≡ pos 0
  cost_slack i past below = cost_past i past ∙ bare_below i below

  cost_weight : entry_at (cost_row problem) (weight_index problem) ≡ pos 1
  cost_weight = cost_past (weight_index problem) (omega arith) ∙ bare_weight

  cost_made : IsMade problem (cost_row problem)
  cost_made = record {
    columns_left = λ column within.
        let over = over_none (λ constraint. entry_at constraint.terms column)
        (entry_at (cost_row problem)) (columns problem) problem.constraints cost_slack in
        let own = cost_column column within in
        let cost = slice_index_or problem.costs column (pos 0) in
        let paid = ap (λ n. n *ℤ cost) cost_weight in
        let once = one_times cost in
        omega (arith, linear, over, own, paid, once);
    limits_left =
        let over = over_none (λ constraint. constraint.limit) (entry_at (cost_row problem))
        (columns problem) problem.constraints cost_slack in
        let own = cost_past (right_side problem) (omega arith) ∙ bare_right in
        let paid = ap (λ n. n *ℤ neg_ℤ problem.constant) cost_weight in
        let once = one_times (neg_ℤ problem.constant) in
        omega (arith, linear, over, own, paid, once);
  }

  cost_low : IsProblem problem → (i : ℕ) → i < right_side problem
      → entry_at (cost_row problem) i ≤ℤ pos 0
  cost_low valid i below = by (order i (columns problem))
    where
      order : (i n : ℕ) → (i < n) ⊎ (n ≤ i)
      order i n = grind arith

      by : (i < columns problem) ⊎ (columns problem ≤ i) → entry_at (cost_row problem) i ≤ℤ pos 0
      by (inl within) =
          let own = cost_column i within in
          let low = (valid.costs i (pos 0) within).low in
          omega (arith, linear, own, low)
      by (inr past) =
          let none = cost_slack i past below in omega (arith, linear, none)

  -- the rows by their positions
  rows_count : (k : ℕ) (constraints : List Constraint)
      → length (constraint_rows problem k constraints) ≡ length constraints
  rows_count k [] = refl
  rows_count k (c ∷ constraints) = ap suc (rows_count (k + 1) constraints)

  row_there : (a k : ℕ) (constraints : List Constraint) (rest : List (List Entry)) (c : Constraint)
      → slice_get constraints k ≡ Some c
      → slice_get (constraint_rows problem a constraints ++ rest) k
      ≡ Some (constraint_row problem (a + k) c)
  row_there a k [] rest c here = absurd (let e : None ≡ Some c = here in cc)
  row_there a zero (d ∷ constraints) rest c here =
      let same : d ≡ c = cc in
      ap₂ (λ (i : ℕ) (b : Constraint). Some (constraint_row problem i b)) (plus_none a) same
    where
      plus_none : (a : ℕ) → a ≡ a + 0
      plus_none a = omega arith
  row_there a (suc k) (d ∷ constraints) rest c here =
      row_there (a + 1) k constraints rest c here
      ∙ ap (λ (i : ℕ). Some (constraint_row problem i c)) (moved a k)
    where
      moved : (a k : ℕ) → a + 1 + k ≡ a + suc k
      moved a k = omega arith

  after : (rows : List (List Entry)) (row : List Entry) (n : ℕ) → length rows ≡ n
      → row_at (rows ++ row ∷ []) n ≡ row
  after [] row zero long = refl
  after [] row (suc n) long = absurd (omega (arith, long))
  after (first ∷ rows) row zero long = absurd (omega (arith, long))
  after (first ∷ rows) row (suc n) long = after rows row n (omega (arith, long))

  pub last_is : row_at (first_tableau problem).rows (length problem.constraints) ≡ cost_row problem
  last_is = after (constraint_rows problem 0 problem.constraints) (cost_row problem)
      (length problem.constraints) (rows_count 0 problem.constraints)

  module _ (k : ℕ) (small : k < length problem.constraints) where
    pub there : (c : Constraint) × (slice_get problem.constraints k ≡ Some c)
    there = item_there problem.constraints k small

    pub row_is : (c : Constraint) → slice_get problem.constraints k ≡ Some c
        → row_at (first_tableau problem).rows k ≡ constraint_row problem k c
    row_is c here =
        ap row_or_none
        (row_there 0 k problem.constraints (cost_row problem ∷ []) c here)
        ∙ ap (λ (i : ℕ). constraint_row problem i c) (from_none k)
      where
        from_none : (n : ℕ) → 0 + n ≡ n
        from_none n = omega arith

    pub valid_at : IsProblem problem → (c : Constraint) → slice_get problem.constraints k ≡ Some c
        → IsConstraint (columns problem) c
    valid_at valid c here =
        All-item (IsConstraint (columns problem)) problem.constraints k c valid.constraints here

    first_made : IsProblem problem → IsMade problem (row_at (first_tableau problem).rows k)
    first_made valid =
        let c = there.0 in
        let here = there.1 in
        subst (IsMade problem) (sym (row_is c here))
        (constraint_made problem k c small (valid_at valid c here) here)

    first_weightless : IsProblem problem
        → entry_at (row_at (first_tableau problem).rows k) (weight_index problem) ≡ pos 0
    first_weightless valid =
        let c = there.0 in
        let here = there.1 in
        ap (λ (r : List Entry). entry_at r (weight_index problem)) (row_is c here)
        ∙ constraint_weightless problem k c small (valid_at valid c here)

  below_end : (a n end : ℕ) → a + n ≤ end → All (λ index. index < end) (range_with_len a n)
  below_end a zero end few = All-nil (λ index. index < end)
  below_end a (suc n) end few =
      All-cons (λ index. index < end) a (range_with_len (a + 1) n) (omega (arith, few))
      (below_end (a + 1) n end (omega (arith, few)))

  pub first_lawful : IsProblem problem → IsLawful problem (first_tableau problem)
  first_lawful valid = record {
    count =
        let rows = rows_count 0 problem.constraints in
        let both = length-append (constraint_rows problem 0 problem.constraints)
        (cost_row problem ∷ []) in
        omega (arith, rows, both);
    basis = length-range_with_len (columns problem) (length problem.constraints);
    indices = below_end (columns problem) (length problem.constraints) (right_side problem)
        (omega arith);
    made = λ k small. made_at k (order k (length problem.constraints) small);
    weightless = λ k small. first_weightless k small valid;
    weight =
        let own = ap (λ (r : List Entry). entry_at r (weight_index problem)) last_is
        ∙ cost_weight in
        omega (arith, linear, own);
    costs = λ k below.
        subst (λ (r : List Entry). entry_at r k ≤ℤ pos 0) (sym last_is) (cost_low valid k below);
  }
    where
      order : (k m : ℕ) → k < m + 1 → (k < m) ⊎ (k ≡ m)
      order k m small = grind arith

      made_at : (k : ℕ) → (k < length problem.constraints) ⊎ (k ≡ length problem.constraints)
          → IsMade problem (row_at (first_tableau problem).rows k)
      made_at k (inl small) = first_made k small valid
      made_at k (inr last) =
          subst (λ n. IsMade problem (row_at (first_tableau problem).rows n)) (sym last)
          (subst (IsMade problem) (sym last_is) cost_made)
