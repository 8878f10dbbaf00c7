-- Sums by positions.
use Rattle.std.proofs.lemmas.List.Folds.{sum_by-replicate}
use Rattle.std.proofs.lemmas.List.Sums.{get_or-le-sum_by, sum_by-cons, sum_by-set}
use mir.Syntax.{w128}
use Rattle.std.proofs.Common.{◌^◌, ap, zero, suc, ◌*ℤ◌, ◌-◌, ◌≡◌, ℕ, ◌*◌, ◌+◌, ◌≤◌, ◌<◌, List, [], ◌∷◌, length, set, get_or, sum_by, replicate, ℤ, pos, negsuc, neg_ℤ, ◌+ℤ◌, ◌≤ℤ◌, unsigned_abs, SFits, of_z, to_z, sym, ◌∙◌, arith}
use Rattle.std.proofs.lemmas.Int.{fits_signed_from_abs, ints, to_z-of_z}
use Rattle.dual_sums.proofs.TimesFacts.{plus-times}
use Rattle.dual_sums.specs.Sums.{Summed, weighed, mass, sum_at, below}

pub whole : (z : ℤ) → SFits w128 z → to_z w128 (of_z w128 z) ≡ z
whole z fits = to_z-of_z w128 z fits

pub abs_up : (z : ℤ) → z ≤ℤ pos (unsigned_abs z)
abs_up (pos n) = omega (arith, ints)
abs_up (negsuc n) = omega (arith, ints)

pub abs_down : (z : ℤ) → neg_ℤ (pos (unsigned_abs z)) ≤ℤ z
abs_down (pos n) = omega (arith, ints)
abs_down (negsuc n) = omega (arith, ints)

pub below_le : (z : ℤ) → below z ≤ unsigned_abs z
below_le (pos n) = omega arith
below_le (negsuc n) = omega arith

pub lows_le : (xs : List ℤ) → sum_by below xs ≤ sum_by unsigned_abs xs
lows_le [] = omega arith
lows_le (x ∷ xs) =
    omega (arith, sum_by-cons below x xs, sum_by-cons unsigned_abs x xs, below_le x, lows_le xs)

-- factors of 0
pub zeros_low : (n : ℕ) → 0 ≡ sum_by below (replicate n (pos 0))
zeros_low n = sym (sum_by-replicate below n (pos 0) ∙ times n)
  where
    times : (k : ℕ) → k * 0 ≡ 0
    times k = omega arith

pub factor_near : (xs : List ℤ) (k : ℕ) (d : ℤ) → k < length xs
    → unsigned_abs (get_or xs k d) ≤ sum_by unsigned_abs xs
factor_near xs k d within = get_or-le-sum_by unsigned_abs xs k d within

pub low_at : (xs : List ℤ) (k : ℕ) (d : ℤ) → k < length xs
    → below (get_or xs k d) ≤ sum_by below xs
low_at xs k d within = get_or-le-sum_by below xs k d within

pub low_set : (xs : List ℤ) (k : ℕ) (d factor : ℤ) → k < length xs
    → sum_by below (set xs k factor) ≡ sum_by below xs - below (get_or xs k d) + below factor
low_set xs k d factor within =
    let same = sum_by-set below xs k factor d within in
    let le = get_or-le-sum_by below xs k d within in
    omega arith

pub abs_le : (z : ℤ) (n : ℕ) → z ≤ℤ pos n → neg_ℤ (pos n) ≤ℤ z → unsigned_abs z ≤ n
abs_le (pos m) n up down = omega (arith, ints, up)
abs_le (negsuc m) n up down = omega (arith, ints, down)

pub abs_sum : (a b : ℤ) → unsigned_abs (a +ℤ b) ≤ unsigned_abs a + unsigned_abs b
abs_sum a b =
    abs_le (a +ℤ b) (unsigned_abs a + unsigned_abs b)
    (omega (arith, ints, abs_up a, abs_up b)) (omega (arith, ints, abs_down a, abs_down b))

pub constant_grows : (old : Summed) (more constant : ℤ) → constant ≡ old.constant +ℤ more
    → ((bit : ℕ → ℕ) → sum_at bit (record { constant = constant; factors = old.factors })
    ≡ sum_at bit old +ℤ more *ℤ pos 1)
    × (mass (record { constant = constant; factors = old.factors })
    ≤ mass old + unsigned_abs more)
constant_grows old more constant is = (
  λ bit. omega (arith, ints, is),
  let le = abs_sum old.constant more in
      let same = ap unsigned_abs is in omega (arith, le, same),
)

weighed_set : (bit : ℕ → ℕ) (from k : ℕ) (xs : List ℤ) (d more : ℤ) → k < length xs
    → weighed bit from (set xs k (get_or xs k d +ℤ more))
    ≡ weighed bit from xs +ℤ more *ℤ pos (bit (from + k))
weighed_set bit from k [] d more within = absurd (omega (arith, within))
weighed_set bit from zero (x ∷ xs) d more within =
    let at : bit (from + 0) ≡ bit from = ap bit (plus_zero from) in
    let split = plus-times x more (bit from) in
    let same = ap (λ n. more *ℤ pos n) at in
    omega (arith, ints, split, same)
  where
    plus_zero : (n : ℕ) → n + 0 ≡ n
    plus_zero n = omega arith
weighed_set bit from (suc k) (x ∷ xs) d more within =
    let at : bit (from + 1 + k) ≡ bit (from + suc k) = ap bit (next from k) in
    let rest = weighed_set bit (from + 1) k xs d more (omega (arith, within)) in
    let same = ap (λ n. more *ℤ pos n) at in
    omega (arith, ints, rest, same)
  where
    next : (n m : ℕ) → n + 1 + m ≡ n + suc m
    next n m = omega arith

pub factor_grows : (old : Summed) (position : ℕ) (more d : ℤ) → position < length old.factors
    → ((bit : ℕ → ℕ) → sum_at bit (record {
      constant = old.constant;
      factors = set old.factors position (get_or old.factors position d +ℤ more);
    }) ≡ sum_at bit old +ℤ more *ℤ pos (bit position))
    × (mass (record {
      constant = old.constant;
      factors = set old.factors position (get_or old.factors position d +ℤ more);
    }) ≤ mass old + unsigned_abs more)
factor_grows old position more d within = (
  λ bit. let at = weighed_set bit 0 position old.factors d more within in
      let same = ap (λ n. more *ℤ pos (bit n)) (zero_plus position) in
      omega (arith, ints, at, same),
  let same = sum_by-set unsigned_abs old.factors position (get_or old.factors position d +ℤ more)
      d within in
      let le = abs_sum (get_or old.factors position d) more in
      omega (arith, same, le),
)
  where
    zero_plus : (n : ℕ) → 0 + n ≡ n
    zero_plus n = omega arith

pub whole_small : (z : ℤ) → unsigned_abs z < 2 ^ 100 → to_z w128 (of_z w128 z) ≡ z
whole_small z small = whole z (fits_signed_from_abs w128 z (omega (arith, small)))

pub whole_near : (z : ℤ) → unsigned_abs z < 2 ^ 126 → to_z w128 (of_z w128 z) ≡ z
whole_near z small = whole z (fits_signed_from_abs w128 z (omega (arith, small)))

pub whole_wide : (z : ℤ) → unsigned_abs z < 2 ^ 127 → to_z w128 (of_z w128 z) ≡ z
whole_wide z small = whole z (fits_signed_from_abs w128 z (omega (arith, small)))
