-- The least index of those with a negative right side is that of the row that leaves.
use Rattle.std.proofs.Common.{◌≡◌, ◌≢◌, ◌⊎◌, ℕ, ◌+◌, ◌*◌, ◌^◌, ◌<◌, ◌≤◌, true, false, nat_lt, List, length, slice_index, Option, Some, None, MatchOption, ℤ, ◌*ℤ◌, nat_abs, refl, sym, ap, ◌∙◌, subst, inl, inr, arith}
use Rattle.std.proofs.lemmas.Bool.{cases_lt, le-ltb, lt-ltb}
use Rattle.std.proofs.lemmas.Int.{unsigned_abs-mul}
use Rattle.std.proofs.lemmas.Nat.{mul-le}
use Rattle.number_set.specs.Numbers.{Numbers, has}
use Rattle.row_arena.specs.Rows.{most_entry}
use Rattle.scaled_simplex.specs.Board.{AreFound, IsLeastIn}
use Rattle.scaled_simplex.specs.Program.{Problem}
use Rattle.scaled_simplex.specs.Run.{leaving}
use Rattle.scaled_simplex.specs.Tableau.{Tableau}
use Rattle.scaled_simplex.proofs.Choices.{leaving_best, leaving_is_found, may_leave}
use Rattle.scaled_simplex.proofs.ListFacts.{no_both}

module _ (problem : Problem) (tableau : Tableau) (row_of : List ℕ) (negative : Numbers)
    (found : AreFound problem tableau row_of negative) where
  pub leaving_told : (row : ℕ) → IsLeastIn negative row_of row
      → Some row ≡ leaving problem tableau
  leaving_told row least = sym (leaving_is_found problem tableau row (record {
    within = subst (λ k. k < length problem.constraints) (sym least.is) known.0;
    passing = sym (found.signs row small) ∙ ap (has negative) own ∙ least.first.here;
    best = λ j below passing. subst (λ n. nat_lt (slice_index tableau.basis j) n ≡ false)
        (sym own)
        (le-ltb (slice_index tableau.basis j) least.index (not_before j below passing));
    first = λ j before passing. subst (λ n. nat_lt n (slice_index tableau.basis j) ≡ true)
        (sym own)
        (lt-ltb least.index (slice_index tableau.basis j)
        (let from = not_before j (omega (arith, before, small)) passing in
        let other = apart j before in
        omega (arith, from, other)));
  }))
    where
      known : (slice_index row_of least.index < length problem.constraints)
          × (slice_index tableau.basis (slice_index row_of least.index) ≡ least.index)
      known = found.some least.index least.first.here

      small : row < length problem.constraints
      small = subst (λ k. k < length problem.constraints) (sym least.is) known.0

      own : slice_index tableau.basis row ≡ least.index
      own = ap (slice_index tableau.basis) least.is ∙ known.1

      not_before : (j : ℕ) → j < length problem.constraints → may_leave problem tableau j ≡ true
          → least.index ≤ slice_index tableau.basis j
      not_before j below passing = by (cases_lt (slice_index tableau.basis j) least.index)
        where
          by : (slice_index tableau.basis j < least.index)
              ⊎ (least.index ≤ slice_index tableau.basis j)
              → least.index ≤ slice_index tableau.basis j
          by (inl before) =
              absurd (no_both (found.signs j below ∙ passing)
              (least.first.none_before (slice_index tableau.basis j) before))
          by (inr from) = from

      apart : (j : ℕ) → j < row → slice_index tableau.basis j ≢ least.index
      apart j before same =
          let back = found.back j (omega (arith, before, small)) in
          let it : j ≡ row = sym back ∙ ap (slice_index row_of) same ∙ sym least.is in
          omega (arith, before, it)

  pub none_told : ((k : ℕ) → has negative k ≡ false) → None ≡ leaving problem tableau
  none_told none = by (leaving problem tableau) refl
    where
      by : (o : Option ℕ) → leaving problem tableau ≡ o → None ≡ o
      by None is = refl
      by (Some row) is =
          let best = leaving_best problem tableau row is in
          absurd (no_both (found.signs row best.within ∙ best.passing)
          (none (slice_index tableau.basis row)))

  pub told : (leaves : Option ℕ)
      → MatchOption leaves ((k : ℕ) → has negative k ≡ false) (IsLeastIn negative row_of)
      → leaves ≡ leaving problem tableau
  told None none = none_told none
  told (Some row) least = leaving_told row least

-- the leaving row is one of the rows
pub leaving_there : (problem : Problem) (tableau : Tableau) (leaves : Option ℕ) (row : ℕ)
    → leaves ≡ leaving problem tableau → leaves ≡ Some row
    → length tableau.rows ≡ length problem.constraints + 1 → row < length tableau.rows
leaving_there problem tableau leaves row is found count =
    let best = leaving_best problem tableau row (sym is ∙ found) in
    let within = best.within in
    omega (arith, within, count)

-- the product fits
pub product_near : (a b : ℤ) → nat_abs a ≤ 2 ^ 64 → nat_abs b ≤ most_entry
    → nat_abs (a *ℤ b) < 2 ^ 127
product_near a b left right =
    let same : nat_abs (a *ℤ b) ≡ nat_abs a * nat_abs b = unsigned_abs-mul a b in
    let le : nat_abs a * nat_abs b ≤ 2 ^ 64 * most_entry = mul-le _ _ _ _ left right in
    omega (arith, same, le)
