-- The first row of a constraint: what it has in each column, and that it is made of the constraint.
use Rattle.std.proofs.Common.{◌≡◌, ◌≢◌, ℕ, zero, suc, ◌+◌, ◌<◌, ◌≤◌, List, [], ◌∷◌, ◌++◌, length, slice_get, slice_index_or, Some, None, All, ℤ, pos, neg_ℤ, ◌+ℤ◌, ◌*ℤ◌, refl, sym, ap, ◌∙◌, arith}
use Rattle.std.proofs.lemmas.List.Elements.{All-head, All-tail}
use Rattle.row_arena.specs.declared.entry.Entry.{Entry}
use Rattle.row_arena.specs.Rows.{entry_at, unless_zero}
use Rattle.scaled_simplex.specs.Program.{Constraint, IsConstraint, Problem, columns}
use Rattle.scaled_simplex.specs.Tableau.{constraint_row, one_at, right_side, weight_index}
use Rattle.scaled_simplex.proofs.Checks.{IsMade, over_constraints}
use Rattle.scaled_simplex.proofs.EntryLaws.{entry_append, entry_one, unless_other, unless_same, value_other, value_same}
use Rattle.row_arena.proofs.WholeLaws.{linear, one_times, zero_times}

-- terms have nothing past the columns
terms_past : (n : ℕ) (terms : List Entry) (k : ℕ) → All (λ term. term.column < n) terms → n ≤ k
    → entry_at terms k ≡ pos 0
terms_past n [] k all past = refl
terms_past n (term ∷ terms) k all past =
    let small : term.column < n = All-head (λ term. term.column < n) term terms all in
    let here = value_other k term (λ same. omega (arith, small, same, past)) in
    let more = terms_past n terms k (All-tail (λ term. term.column < n) term terms all) past in
    omega (arith, linear, here, more)

pub one_same : (column k : ℕ) → column ≡ k → entry_at (one_at column) k ≡ pos 1
one_same column k same =
    let entry : Entry = record { column = column; value = pos 1 } in
    entry_one entry k ∙ value_same k entry same

pub one_other : (column k : ℕ) → column ≢ k → entry_at (one_at column) k ≡ pos 0
one_other column k other =
    let entry : Entry = record { column = column; value = pos 1 } in
    entry_one entry k ∙ value_other k entry other

-- what the constraints add up to where none counts, and where one counts once
pub over_none : (part : Constraint → ℤ) (f : ℕ → ℤ) (a : ℕ) (constraints : List Constraint)
    → ((k : ℕ) → a ≤ k → k < a + length constraints → f k ≡ pos 0)
    → over_constraints part f a constraints ≡ pos 0
over_none part f a [] none = refl
over_none part f a (c ∷ constraints) none =
    let here = ap (λ n. n *ℤ part c) (none a (omega arith) (omega arith)) in
    let zero_here = zero_times (part c) in
    let more = over_none part f (a + 1) constraints
    (λ k since below. none k (omega (arith, since)) (omega (arith, below))) in
    omega (arith, linear, here, zero_here, more)

over_one : (part : Constraint → ℤ) (f : ℕ → ℤ) (a i : ℕ) (c : Constraint)
    (constraints : List Constraint) → slice_get constraints i ≡ Some c → f (a + i) ≡ pos 1
    → ((k : ℕ) → a ≤ k → k < a + length constraints → k ≢ a + i → f k ≡ pos 0)
    → over_constraints part f a constraints ≡ part c
over_one part f a i c [] here one none = absurd (let e : None ≡ Some c = here in cc)
over_one part f a zero c (d ∷ constraints) here one none =
    let same : d ≡ c = cc in
    let first = ap (λ n. n *ℤ part d) (ap f (plus_none a) ∙ one) in
    let once = one_times (part d) in
    let own = ap part same in
    let more = over_none part f (a + 1) constraints
    (λ k since below. none k (omega (arith, since)) (omega (arith, below))
    (λ e. omega (arith, e, since))) in
    omega (arith, linear, first, once, own, more)
  where
    plus_none : (a : ℕ) → a ≡ a + 0
    plus_none a = omega arith
over_one part f a (suc i) c (d ∷ constraints) here one none =
    let first = ap (λ n. n *ℤ part d)
    (none a (omega arith) (omega arith) (λ e. omega (arith, e))) in
    let zero_first = zero_times (part d) in
    let more = over_one part f (a + 1) i c constraints here (ap f (moved a i) ∙ one)
    (λ k since below other. none k (omega (arith, since)) (omega (arith, below))
    (λ e. other (omega (arith, e)))) in
    omega (arith, linear, first, zero_first, more)
  where
    moved : (a i : ℕ) → a + 1 + i ≡ a + suc i
    moved a i = omega arith

-- the row of a constraint
module _ (problem : Problem) (k : ℕ) (constraint : Constraint)
    (small : k < length problem.constraints)
    (valid : IsConstraint (columns problem) constraint) where
  parts : (i : ℕ) → entry_at (constraint_row problem k constraint) i
      ≡ entry_at constraint.terms i +ℤ (entry_at (one_at (columns problem + k)) i
      +ℤ entry_at (unless_zero (right_side problem) constraint.limit) i)
  parts i =
      let first = entry_append constraint.terms (one_at (columns problem + k)
      ++ unless_zero (right_side problem) constraint.limit) i in
      let second = entry_append (one_at (columns problem + k))
      (unless_zero (right_side problem) constraint.limit) i in
      omega (arith, linear, first, second)

  at_column : (i : ℕ) → i < columns problem
      → entry_at (constraint_row problem k constraint) i ≡ entry_at constraint.terms i
  at_column i within =
      let all = parts i in
      let one = one_other (columns problem + k) i (λ e. omega (arith, e, within)) in
      let two = unless_other (right_side problem) constraint.limit i
      (λ e. omega (arith, e, within)) in
      omega (arith, linear, all, one, two)

  past_terms : (i : ℕ) → columns problem ≤ i → entry_at constraint.terms i ≡ pos 0
  past_terms i past = terms_past (columns problem) constraint.terms i valid.within past

  pub at_slack : entry_at (constraint_row problem k constraint) (columns problem + k) ≡ pos 1
  at_slack =
      let all = parts (columns problem + k) in
      let none = past_terms (columns problem + k) (omega arith) in
      let one = one_same (columns problem + k) (columns problem + k) refl in
      let two = unless_other (right_side problem) constraint.limit (columns problem + k)
      (λ e. omega (arith, e, small)) in
      omega (arith, linear, all, none, one, two)

  pub at_others : (i : ℕ) → columns problem ≤ i → i < right_side problem → i ≢ columns problem + k
      → entry_at (constraint_row problem k constraint) i ≡ pos 0
  at_others i since below other =
      let all = parts i in
      let none = past_terms i since in
      let one = one_other (columns problem + k) i (λ e. other (sym e)) in
      let two = unless_other (right_side problem) constraint.limit i
      (λ e. omega (arith, e, below)) in
      omega (arith, linear, all, none, one, two)

  at_right : entry_at (constraint_row problem k constraint) (right_side problem)
      ≡ constraint.limit
  at_right =
      let all = parts (right_side problem) in
      let none = past_terms (right_side problem) (omega arith) in
      let one = one_other (columns problem + k) (right_side problem)
      (λ e. omega (arith, e, small)) in
      let two = unless_same (right_side problem) constraint.limit (right_side problem) refl in
      omega (arith, linear, all, none, one, two)

  pub constraint_weightless :
      entry_at (constraint_row problem k constraint) (weight_index problem) ≡ pos 0
  constraint_weightless =
      let all = parts (weight_index problem) in
      let none = past_terms (weight_index problem) (omega arith) in
      let one = one_other (columns problem + k) (weight_index problem)
      (λ e. omega (arith, e, small)) in
      let two = unless_other (right_side problem) constraint.limit (weight_index problem)
      (λ e. omega (arith, e)) in
      omega (arith, linear, all, none, one, two)

  over_is : (part : Constraint → ℤ) → slice_get problem.constraints k ≡ Some constraint
      → over_constraints part (entry_at (constraint_row problem k constraint)) (columns problem)
      problem.constraints ≡ part constraint
  over_is part here =
      over_one part (entry_at (constraint_row problem k constraint)) (columns problem) k constraint
      problem.constraints here at_slack at_others

  pub constraint_made : slice_get problem.constraints k ≡ Some constraint
      → IsMade problem (constraint_row problem k constraint)
  constraint_made here = record {
    columns_left = λ column within.
        let over = over_is (λ constraint. entry_at constraint.terms column) here in
        let own = at_column column within in
        let cost = slice_index_or problem.costs column (pos 0) in
        let unpaid = ap (λ n. n *ℤ cost) constraint_weightless in
        let none = zero_times cost in
        omega (arith, linear, over, own, unpaid, none);
    limits_left =
        let over = over_is (λ constraint. constraint.limit) here in
        let own = at_right in
        let unpaid = ap (λ n. n *ℤ neg_ℤ problem.constant) constraint_weightless in
        let none = zero_times (neg_ℤ problem.constant) in
        omega (arith, linear, over, own, unpaid, none);
  }
