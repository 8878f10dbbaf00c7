-- A whole number times a sum or a difference of integers.
use Rattle.std.proofs.Common.{◌≡◌, ℕ, zero, suc, ◌+◌, ◌*◌, ◌≤◌, ℤ, pos, neg_ℤ, ◌+ℤ◌, ◌-ℤ◌, ◌*ℤ◌, ◌≤ℤ◌, arith}
use Rattle.std.proofs.lemmas.Int.{ints}
use Rattle.std.proofs.Math.Nat.{mul-le-mul_right, suc-mul}
use Rattle.std.proofs.Math.IntN.{suc_ℤ-*ℤ, zero-*ℤ}

pub times-more : (w : ℕ) (a : ℤ) → pos (suc w) *ℤ a ≡ pos w *ℤ a +ℤ a
times-more w a = suc_ℤ-*ℤ (pos w) a

pub times-minus : (w : ℕ) (a b : ℤ) → pos w *ℤ (a -ℤ b) ≡ pos w *ℤ a -ℤ pos w *ℤ b
times-minus zero a b =
    omega (arith, ints, zero-*ℤ (a -ℤ b), zero-*ℤ a, zero-*ℤ b)
times-minus (suc w) a b =
    omega (arith, ints, times-more w (a -ℤ b), times-more w a, times-more w b, times-minus w a b)

-- no further from zero than the number times what each is within
times_by : (w m : ℕ) (v : ℤ) → neg_ℤ (pos m) ≤ℤ v → v ≤ℤ pos m
    → (neg_ℤ (pos (w * m)) ≤ℤ (pos w *ℤ v)) × ((pos w *ℤ v) ≤ℤ pos (w * m))
times_by zero m v low high =
    (omega (arith, ints, zero-*ℤ v), omega (arith, ints, zero-*ℤ v))
times_by (suc w) m v low high =
    let more = times-more w v in
    let before = times_by w m v low high in
    let grown : suc w * m ≡ w * m + m = suc-mul w m in (
      omega (arith, ints, more, before.0, low, grown),
      omega (arith, ints, more, before.1, high, grown),
    )

pub times-within : (w most m : ℕ) (v : ℤ) → w ≤ most → neg_ℤ (pos m) ≤ℤ v → v ≤ℤ pos m
    → (neg_ℤ (pos (most * m)) ≤ℤ (pos w *ℤ v)) × ((pos w *ℤ v) ≤ℤ pos (most * m))
times-within w most m v few low high =
    let by = times_by w m v low high in
    let le : w * m ≤ most * m = mul-le-mul_right m few in
    (omega (arith, ints, by.0, le), omega (arith, ints, by.1, le))
