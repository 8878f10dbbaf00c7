-- Whole numbers times integers.
use Rattle.std.proofs.Common.{◌≡◌, ℕ, zero, suc, ℤ, pos, ◌+ℤ◌, ◌*ℤ◌, ◌≤ℤ◌, ap, ◌∙◌, sym, arith}
use Rattle.std.proofs.lemmas.Int.{ints}
use Rattle.std.proofs.Math.IntN.{*ℤ-zero, *ℤ_comm, zero-*ℤ}
use Rattle.exact_sums.proofs.ProductFacts.{times-more}

-- one time more
pub more-times : (a : ℤ) (n : ℕ) → a *ℤ pos (suc n) ≡ a *ℤ pos n +ℤ a
more-times a n =
    *ℤ_comm a (pos (suc n)) ∙ times-more n a ∙ ap (λ b. b +ℤ a) (*ℤ_comm (pos n) a)

pub plus-times : (a b : ℤ) (n : ℕ) → (a +ℤ b) *ℤ pos n ≡ a *ℤ pos n +ℤ b *ℤ pos n
plus-times a b zero = omega (arith, ints, *ℤ-zero (a +ℤ b), *ℤ-zero a, *ℤ-zero b)
plus-times a b (suc n) =
    omega (arith, ints, more-times (a +ℤ b) n, more-times a n, more-times b n, plus-times a b n)

pub times-plus : (w : ℕ) (a b : ℤ) → pos w *ℤ (a +ℤ b) ≡ pos w *ℤ a +ℤ pos w *ℤ b
times-plus zero a b = omega (arith, ints, zero-*ℤ (a +ℤ b), zero-*ℤ a, zero-*ℤ b)
times-plus (suc w) a b =
    omega (arith, ints, times-more w (a +ℤ b), times-more w a, times-more w b, times-plus w a b)

-- so many times a factor, as often
pub times-times : (w : ℕ) (a : ℤ) (n : ℕ) → pos w *ℤ (a *ℤ pos n) ≡ (pos w *ℤ a) *ℤ pos n
times-times w a zero = ap (λ b. pos w *ℤ b) (*ℤ-zero a) ∙ *ℤ-zero (pos w)
    ∙ sym (*ℤ-zero (pos w *ℤ a))
times-times w a (suc n) =
    let split = ap (λ b. pos w *ℤ b) (more-times a n) in
    omega (
      arith,
      ints,
      split,
      times-plus w (a *ℤ pos n) a,
      times-times w a n,
      more-times (pos w *ℤ a) n,
    )

-- no less
pub times-le : (w : ℕ) (a b : ℤ) → a ≤ℤ b → (pos w *ℤ a) ≤ℤ (pos w *ℤ b)
times-le zero a b le = omega (arith, ints, zero-*ℤ a, zero-*ℤ b)
times-le (suc w) a b le =
    omega (arith, ints, times-more w a, times-more w b, times-le w a b le, le)

-- nothing above 0
pub times-down : (w : ℕ) (a : ℤ) → a ≤ℤ pos 0 → (pos w *ℤ a) ≤ℤ pos 0
times-down zero a down = omega (arith, ints, zero-*ℤ a)
times-down (suc w) a down = omega (arith, ints, times-more w a, times-down w a down, down)
