-- Which row leaves and which index enters.
use Rattle.std.proofs.Common.{◌≡◌, ℕ, ◌<◌, Bool, true, false, nat_lt, List, length, slice_index, Some, None, ℤ, pos, neg_ℤ, ◌*ℤ◌, ◌≤ℤ◌, ◌<ℤ◌, int_lt, refl, arith}
use Rattle.std.proofs.lemmas.Bool.{lt-ltb, ltb-true, ltb-false}
use Rattle.row_arena.specs.declared.entry.Entry.{Entry}
use Rattle.row_arena.specs.Rows.{entry_at, negated}
use Rattle.scaled_simplex.specs.Program.{Problem}
use Rattle.scaled_simplex.specs.Run.{cost_at, entering, is_less_ratio, leaving, right_at}
use Rattle.scaled_simplex.specs.Tableau.{Tableau, right_side}
use Rattle.scaled_simplex.proofs.EntryLaws.{entry_negated}
use Rattle.row_arena.proofs.WholeLaws.{is_less, isnt_less, less_is, less_isnt, less_ratio, linear}
use Rattle.scaled_simplex.proofs.Searches.{IsBest, IsFound, IsOrder, best_found, best_is_found}

module _ (problem : Problem) (tableau : Tableau) where
  -- the leaving row
  abbrev pub may_leave : ℕ → Bool
  may_leave k = int_lt (right_at problem tableau k) (pos 0)

  abbrev pub is_lower : ℕ → ℕ → Bool
  is_lower a b = nat_lt (slice_index tableau.basis a) (slice_index tableau.basis b)

  pub lower_order : IsOrder may_leave is_lower
  lower_order = record {
    apart = λ a b is. not_both (slice_index tableau.basis a) (slice_index tableau.basis b) is;
    between = λ a b c _ _ _ is isnt.
        let lt = ltb-true (slice_index tableau.basis a) (slice_index tableau.basis c) is in
        let le = ltb-false (slice_index tableau.basis b) (slice_index tableau.basis c) isnt in
        lt-ltb (slice_index tableau.basis a) (slice_index tableau.basis b) (omega (arith, lt, le));
  }
    where
      not_both : (m n : ℕ) → nat_lt m n ≡ true → nat_lt n m ≡ false
      not_both m n is = by (nat_lt n m) refl
        where
          by : (b : Bool) → nat_lt n m ≡ b → b ≡ false
          by true back = absurd
              (let one = ltb-true m n is in
              let two = ltb-true n m back in omega (arith, one, two))
          by false _ = refl

  pub leaving_found : IsFound may_leave is_lower (length problem.constraints)
      (leaving problem tableau)
  leaving_found = best_found may_leave is_lower lower_order (length problem.constraints)

  pub leaving_best : (leaves : ℕ) → leaving problem tableau ≡ Some leaves
      → IsBest may_leave is_lower (length problem.constraints) leaves
  leaving_best leaves is = leaving_found.some leaves is

  pub leaving_within : (leaves : ℕ) → leaving problem tableau ≡ Some leaves
      → leaves < length problem.constraints
  leaving_within leaves is = (leaving_best leaves is).within

  pub leaving_negative : (leaves : ℕ) → leaving problem tableau ≡ Some leaves
      → right_at problem tableau leaves <ℤ pos 0
  leaving_negative leaves is =
      less_is (right_at problem tableau leaves) (pos 0) (leaving_best leaves is).passing

  pub none_leaves : leaving problem tableau ≡ None → (k : ℕ) → k < length problem.constraints
      → pos 0 ≤ℤ right_at problem tableau k
  none_leaves is k within =
      less_isnt (right_at problem tableau k) (pos 0) (leaving_found.none is k within)

  -- whatever is best leaves
  pub leaving_is_found : (leaves : ℕ)
      → IsBest may_leave is_lower (length problem.constraints) leaves
      → leaving problem tableau ≡ Some leaves
  leaving_is_found leaves is =
      best_is_found may_leave is_lower lower_order (length problem.constraints) leaves is

  -- the entering index
  module _ (row : List Entry) where
    abbrev pub may_enter : ℕ → Bool
    may_enter index = int_lt (entry_at row index) (pos 0)

    -- the cost at one index times the entry at another, each turned round
    abbrev cross : ℕ → ℕ → ℤ
    cross a b = neg_ℤ (cost_at problem tableau a) *ℤ neg_ℤ (entry_at row b)

    enters_below : (index : ℕ) → may_enter index ≡ true → pos 0 <ℤ neg_ℤ (entry_at row index)
    enters_below index passes = omega (arith, linear, less_is (entry_at row index) (pos 0) passes)

    pub ratio_order : IsOrder may_enter (is_less_ratio problem tableau row)
    ratio_order = record {
      apart = λ a b is.
          let less = less_is (cross a b) (cross b a) is in
          isnt_less (cross b a) (cross a b) (omega (arith, linear, less));
      between = λ a b c enters_a enters_b enters_c is isnt.
          is_less (cross a b) (cross b a)
          (less_ratio (neg_ℤ (cost_at problem tableau a))
          (neg_ℤ (cost_at problem tableau b)) (neg_ℤ (cost_at problem tableau c))
          (neg_ℤ (entry_at row a)) (neg_ℤ (entry_at row b)) (neg_ℤ (entry_at row c))
          (enters_below a enters_a) (enters_below b enters_b) (enters_below c enters_c)
          (less_is (cross a c) (cross c a) is) (less_isnt (cross b c) (cross c b) isnt));
    }

    pub entering_found : IsFound may_enter (is_less_ratio problem tableau row)
        (right_side problem) (entering problem tableau row)
    entering_found =
        best_found may_enter (is_less_ratio problem tableau row) ratio_order (right_side problem)

    pub entering_best : (enters : ℕ) → entering problem tableau row ≡ Some enters
        → IsBest may_enter (is_less_ratio problem tableau row) (right_side problem) enters
    entering_best enters is = entering_found.some enters is

    pub entering_within : (enters : ℕ) → entering problem tableau row ≡ Some enters
        → enters < right_side problem
    entering_within enters is = (entering_best enters is).within

    pub entering_negative : (enters : ℕ) → entering problem tableau row ≡ Some enters
        → entry_at row enters <ℤ pos 0
    entering_negative enters is =
        less_is (entry_at row enters) (pos 0) (entering_best enters is).passing

    pub entering_least : (enters k : ℕ) → entering problem tableau row ≡ Some enters
        → k < right_side problem → entry_at row k <ℤ pos 0
        → (neg_ℤ (cost_at problem tableau enters) *ℤ neg_ℤ (entry_at row k))
        ≤ℤ (neg_ℤ (cost_at problem tableau k) *ℤ neg_ℤ (entry_at row enters))
    entering_least enters k is within below =
        less_isnt (cross k enters) (cross enters k)
        ((entering_best enters is).best k within (is_less (entry_at row k) (pos 0) below))

    pub none_enters : (k : ℕ) → entering problem tableau row ≡ None → k < right_side problem
        → pos 0 ≤ℤ entry_at row k
    none_enters k is within =
        less_isnt (entry_at row k) (pos 0) (entering_found.none is k within)

    -- turned round, the leaving row is above 0 at the entering index
    pub entering_positive : (enters : ℕ) → entering problem tableau row ≡ Some enters
        → pos 0 <ℤ entry_at (negated row) enters
    entering_positive enters is =
        let below = entering_negative enters is in
        let turned = entry_negated row enters in omega (arith, linear, below, turned)
