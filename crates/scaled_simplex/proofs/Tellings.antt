-- What a row tells: the multipliers that it gives, with its weight and its right side.
use Rattle.std.proofs.Common.{◌≡◌, ℕ, zero, suc, ◌+◌, ◌<◌, ◌≤◌, Bool, true, false, if◌then◌else◌, List, [], ◌∷◌, length, map, slice_index_or, All, ℤ, pos, neg_ℤ, ◌+ℤ◌, ◌*ℤ◌, ◌≤ℤ◌, ◌<ℤ◌, refl, sym, ap, ap₂, ◌∙◌, subst, arith}
use Rattle.std.specs.List.{range_with_len}
use Rattle.std.proofs.lemmas.List.Elements.{All-cons, All-nil}
use Rattle.std.proofs.lemmas.List.FromFn.{length-map-range_with_len}
use Rattle.row_arena.specs.declared.entry.Entry.{Entry}
use Rattle.row_arena.specs.Rows.{entry_at}
use Rattle.scaled_simplex.specs.declared.end.End.{End}
use Rattle.scaled_simplex.specs.Multipliers.{AreBound, AreRefutation, weighted}
use Rattle.scaled_simplex.specs.Program.{Constraint, Problem, columns}
use Rattle.scaled_simplex.specs.Run.{Outcome, is_infeasible, multiplier_in}
use Rattle.scaled_simplex.specs.Tableau.{right_side, weight_index}
use Rattle.scaled_simplex.proofs.Checks.{IsMade, column_rest, limit_rest, over_constraints}
use Rattle.row_arena.proofs.WholeLaws.{linear, neg_times, times_neg, zero_times}

-- the weighted sum of a list of numbers that are those at the indices, or those turned round
module _ (part : Constraint → ℤ) (f g : ℕ → ℤ) where
  weighted_same : (a b : ℕ) (constraints : List Constraint)
      → ((i j : ℕ) → i + b ≡ j + a → g i ≡ f j)
      → weighted part (map g (range_with_len a (length constraints))) constraints
      ≡ over_constraints part f b constraints
  weighted_same a b [] same = refl
  weighted_same a b (c ∷ constraints) same =
      let more = weighted_same (a + 1) (b + 1) constraints
      (λ i j e. same i j (omega (arith, e))) in
      ap₂ (λ x y. (x *ℤ part c) +ℤ y) (same a b (omega arith)) more

  weighted_turned : (a b : ℕ) (constraints : List Constraint)
      → ((i j : ℕ) → i + b ≡ j + a → g i ≡ neg_ℤ (f j))
      → weighted part (map g (range_with_len a (length constraints))) constraints
      ≡ neg_ℤ (over_constraints part f b constraints)
  weighted_turned a b [] turned = refl
  weighted_turned a b (c ∷ constraints) turned =
      let more = weighted_turned (a + 1) (b + 1) constraints
      (λ i j e. turned i j (omega (arith, e))) in
      let here = ap (λ n. n *ℤ part c) (turned a b (omega arith)) in
      let one = neg_times (f b) (part c) in
      omega (arith, linear, more, here, one)

each_in : (P : ℤ → Type 0) (g : ℕ → ℤ) (a n : ℕ) → ((k : ℕ) → a ≤ k → k < a + n → P (g k))
    → All P (map g (range_with_len a n))
each_in P g a zero all = All-nil P
each_in P g a (suc n) all =
    All-cons P (g a) (map g (range_with_len (a + 1) n)) (all a (omega arith) (omega arith))
    (each_in P g (a + 1) n (λ k since below. all k (omega (arith, since)) (omega (arith, below))))

module _ (problem : Problem) (end : End) (row : List Entry) where
  abbrev outcome : Outcome
  outcome = record { end = end; row = row }

  abbrev f : ℕ → ℤ
  f = entry_at row

  multiplier_turned : is_infeasible end ≡ false → (i j : ℕ) → i + columns problem ≡ j + 0
      → multiplier_in problem outcome i ≡ neg_ℤ (f j)
  multiplier_turned isnt i j at =
      ap (λ (b : Bool). if b then f (columns problem + i) else neg_ℤ (f (columns problem + i))) isnt
      ∙ ap (λ n. neg_ℤ (f n)) (omega (arith, at))

  multiplier_same : is_infeasible end ≡ true → (i j : ℕ) → i + columns problem ≡ j + 0
      → multiplier_in problem outcome i ≡ f j
  multiplier_same is i j at =
      ap (λ (b : Bool). if b then f (columns problem + i) else neg_ℤ (f (columns problem + i))) is
      ∙ ap f (omega (arith, at))

  -- a row with a weight, of a cost of 0 or less for what each constraint leaves, and for each
  -- column no more than what it is made of
  pub row_bounds : is_infeasible end ≡ false → pos 0 <ℤ f (weight_index problem)
      → ((k : ℕ) → k < length problem.constraints → f (columns problem + k) ≤ℤ pos 0)
      → ((column : ℕ) → column < columns problem → f column ≤ℤ column_rest problem column f)
      → limit_rest problem f ≡ pos 0 → AreBound problem outcome
  row_bounds isnt weight low each none = record {
    weight = weight;
    multipliers = record {
      count = length-map-range_with_len (multiplier_in problem outcome) 0
          (length problem.constraints);
      signs = each_in (λ n. pos 0 ≤ℤ n) (multiplier_in problem outcome) 0
          (length problem.constraints) (λ k _ below.
          let below_zero = low k (omega (arith, below)) in
          subst (λ n. pos 0 ≤ℤ n)
          (sym (multiplier_turned isnt k (columns problem + k) (omega arith)))
          (omega (arith, linear, below_zero)));
      columns = λ column within.
          let over = weighted_turned (λ constraint. entry_at constraint.terms column) f
          (multiplier_in problem outcome) 0 (columns problem) problem.constraints
          (multiplier_turned isnt) in
          let le = each column within in
          omega (arith, linear, over, le);
      worth =
          let over = weighted_turned (λ constraint. constraint.limit) f
          (multiplier_in problem outcome) 0 (columns problem) problem.constraints
          (multiplier_turned isnt) in
          let paid = times_neg (f (weight_index problem)) problem.constant in
          omega (arith, linear, over, none, paid);
    };
  }

  -- a row with no weight, that is 0 or more at each index, and below 0 at the right side
  pub row_refutes : is_infeasible end ≡ true → f (weight_index problem) ≡ pos 0
      → ((k : ℕ) → k < right_side problem → pos 0 ≤ℤ f k) → f (right_side problem) <ℤ pos 0
      → IsMade problem row → AreRefutation problem outcome
  row_refutes is weight low below made = record {
    weight = weight;
    multipliers = record {
      count = length-map-range_with_len (multiplier_in problem outcome) 0
          (length problem.constraints);
      signs = each_in (λ n. pos 0 ≤ℤ n) (multiplier_in problem outcome) 0
          (length problem.constraints) (λ k _ small.
          subst (λ n. pos 0 ≤ℤ n)
          (sym (multiplier_same is k (columns problem + k) (omega arith)))
          (low (columns problem + k) (omega (arith, small))));
      columns = λ column within.
          let over = weighted_same (λ constraint. entry_at constraint.terms column) f
          (multiplier_in problem outcome) 0 (columns problem) problem.constraints
          (multiplier_same is) in
          let rest = made.columns_left column within in
          let cost = slice_index_or problem.costs column (pos 0) in
          let unpaid = ap (λ n. n *ℤ cost) weight in
          let none = zero_times cost in
          let le = low column (omega (arith, within)) in
          omega (arith, linear, over, rest, unpaid, none, le);
      worth =
          let over = weighted_same (λ constraint. constraint.limit) f
          (multiplier_in problem outcome) 0 (columns problem) problem.constraints
          (multiplier_same is) in
          let rest = made.limits_left in
          let unpaid = ap (λ n. n *ℤ neg_ℤ problem.constant) weight in
          let none = zero_times (neg_ℤ problem.constant) in
          let nothing = zero_times problem.constant in
          omega (arith, linear, over, rest, unpaid, none, nothing);
    };
    positive = omega (arith, linear, below);
  }
