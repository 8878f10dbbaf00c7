-- The least number by which the values of the first columns are whole, column by column; and the
-- numerators over it.
use Rattle.std.proofs.Common.{◌≡◌, ◌⊎◌, inl, inr, ℕ, ◌+◌, ◌*◌, ◌%◌, ◌<◌, ◌≤◌, ℤ, pos, negsuc, nat_abs, ◌*ℤ◌, ◌≤ℤ◌, ◌<ℤ◌, refl, sym, ap, ◌∙◌, arith}
use Rattle.std.proofs.lemmas.Int.{ints}
use Rattle.std.proofs.lemmas.Nat.Gcd.{dvd_of_mod-eq-zero, dvd_trans, le_of_dvd, mod-eq-zero_of_dvd}
use Rattle.std.proofs.Math.Nat.{mul-dvd-mul_left}
use Rattle.row_arena.specs.Rows.{most_entry}
use Rattle.scaled_simplex.specs.Fractions.{AreTooWide, IsMultiple, IsValueAt, IsWhole, bottom_at, top_at}
use Rattle.scaled_simplex.specs.Multiples.{IsLeastWith}
use Rattle.scaled_simplex.specs.Program.{Problem, columns}
use Rattle.scaled_simplex.specs.Tableau.{Tableau}

last_or : (k n : ℕ) → k < n + 1 → (k < n) ⊎ (k ≡ n)
last_or k n small = grind arith

module _ (problem : Problem) (tableau : Tableau) where
  -- where a column is whole by a number, it is so by each multiple of that
  whole_more : (column times more : ℕ) → IsWhole problem tableau column times
      → more % times ≡ 0 → IsWhole problem tableau column more
  whole_more column times more whole divides =
      mod-eq-zero_of_dvd (nat_abs (bottom_at problem tableau column))
      (dvd_trans (nat_abs (bottom_at problem tableau column))
      (dvd_of_mod-eq-zero (nat_abs (bottom_at problem tableau column)) whole)
      (mul-dvd-mul_left times (nat_abs (top_at problem tableau column))
      (dvd_of_mod-eq-zero times divides)))

  module _ (column denominator : ℕ) (common : IsMultiple problem tableau column denominator)
      (top bottom multiple : ℕ) (top_is : top ≡ nat_abs (top_at problem tableau column))
      (bottom_is : bottom ≡ nat_abs (bottom_at problem tableau column))
      (is : IsLeastWith denominator top bottom multiple) where
    -- of one column more
    pub more_common : IsMultiple problem tableau (column + 1) multiple
    more_common = record {
      positive = is.positive;
      whole = λ k small. whole_at k (last_or k column small);
      least = λ times whole.
          is.least times (common.least times (λ k small. whole k (omega (arith, small))))
          (own_back times (whole column (omega arith)));
    }
      where
        own : IsWhole problem tableau column multiple
        own = rw (top_is, bottom_is) at is.whole

        own_back : (times : ℕ) → IsWhole problem tableau column times
            → (top * times) % bottom ≡ 0
        own_back times whole = rw (top_is, bottom_is) whole

        whole_at : (k : ℕ) → (k < column) ⊎ (k ≡ column) → IsWhole problem tableau k multiple
        whole_at k (inl before) =
            whole_more k denominator multiple (common.whole k before) is.is
        whole_at k (inr at) = rw at own

    -- and where that is too far from 0
    pub now_too_wide : column < columns problem → denominator ≤ most_entry → most_entry < multiple
        → AreTooWide problem tableau (column + 1) (pos multiple)
    now_too_wide within near far = record {
      within = omega (arith, within);
      positive = let some = is.positive in omega (arith, ints, some);
      multiple_is = more_common;
      far = far;
      below = is.below;
      first = λ fewer other small before.
          let divides = before.least denominator
          (λ k less. common.whole k (omega (arith, less, small))) in
          let le = le_of_dvd common.positive (dvd_of_mod-eq-zero other divides) in
          omega (arith, le, near);
    }

  -- a numerator over a denominator
  pub value_at : (column top bottom denominator : ℕ) (numerator : ℤ)
      → top ≡ nat_abs (top_at problem tableau column)
      → bottom ≡ nat_abs (bottom_at problem tableau column)
      → pos 0 ≤ℤ top_at problem tableau column → pos 0 <ℤ bottom_at problem tableau column
      → pos bottom *ℤ numerator ≡ pos top *ℤ pos denominator
      → IsValueAt problem tableau column numerator (pos denominator)
  value_at column top bottom denominator numerator top_is bottom_is low above is =
      ap (λ n. n *ℤ numerator)
      (sym (ap pos bottom_is ∙ unsigned (bottom_at problem tableau column) (weaker above)))
      ∙ is
      ∙ ap (λ n. n *ℤ pos denominator)
      (ap pos top_is ∙ unsigned (top_at problem tableau column) low)
    where
      unsigned : (z : ℤ) → pos 0 ≤ℤ z → pos (nat_abs z) ≡ z
      unsigned (pos n) least = refl
      unsigned (negsuc n) least = absurd (omega (arith, ints, least))

      weaker : {z : ℤ} → pos 0 <ℤ z → pos 0 ≤ℤ z
      weaker {z} less = omega (arith, ints, less)
