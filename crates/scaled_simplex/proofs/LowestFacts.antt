-- A fraction is whole by exactly the multiples of its denominator in lowest terms.
use Rattle.std.proofs.Common.{◌≡◌, ◌↔◌, ℕ, zero, suc, ◌*◌, ◌/◌, ◌%◌, ◌<◌, ◌≤◌, ◌⊎◌, inl, inr, sym, ap, ◌∙◌, subst, arith}
use Prim.Native.Nat.{◌∣◌}
use Rattle.std.specs.Int.{IsGcd}
use Rattle.std.proofs.lemmas.Nat.Gcd.{dvd_of_mod-eq-zero, mod-eq-zero_of_dvd, same_from_IsGcd}
use Rattle.std.proofs.Math.Nat.{div-mul_cancel, dvd-mul_left, dvd_of_mul-dvd-mul_right, mul-mod_right, mul-mul-mul_comm, mul_comm}
use Rattle.scaled_simplex.specs.Multiples.{IsDivisor}
use Rattle.scaled_simplex.proofs.MultipleFacts.{divisor_end, divisor_some, divisor_step}

-- Euclid's divisor
zero_or : (b : ℕ) → (b ≡ 0) ⊎ (0 < b)
zero_or b = grind arith

has_divisor : (most a b : ℕ) → b ≤ most → (divisor : ℕ) × IsDivisor a b divisor
has_divisor zero a b few = (a, divisor_end a b (omega (arith, few)))
has_divisor (suc most) a b few =
    by (zero_or b) (λ some. has_divisor most b (a % b) (less a b some few))
  where
    less : (a b : ℕ) → 0 < b → b ≤ suc most → a % b ≤ most
    less a b some few = omega (arith, some, few)

    by : (b ≡ 0) ⊎ (0 < b) → (0 < b → (divisor : ℕ) × IsDivisor b (a % b) divisor)
        → (divisor : ℕ) × IsDivisor a b divisor
    by (inl none) rest = (a, divisor_end a b none)
    by (inr some) rest =
        let found = rest some in (found.0, divisor_step a b found.0 found.1)

is_gcd : (a b divisor : ℕ) → IsDivisor a b divisor → IsGcd a b divisor
is_gcd a b divisor is = (
  dvd_of_mod-eq-zero divisor is.first,
  dvd_of_mod-eq-zero divisor is.second,
  λ d by_a by_b.
      dvd_of_mod-eq-zero d
      (subst (λ n. n % d ≡ 0) (once divisor)
      (is.greatest 1 d (subst (λ n. n % d ≡ 0) (sym (once a)) (mod-eq-zero_of_dvd d by_a))
      (subst (λ n. n % d ≡ 0) (sym (once b)) (mod-eq-zero_of_dvd d by_b)))),
)
  where
    once : (n : ℕ) → n * 1 ≡ n
    once n = omega arith

-- the greatest common divisor is one of both so often
gcd_divisor : (a b divisor : ℕ) → IsGcd a b divisor → IsDivisor a b divisor
gcd_divisor a b divisor gcd =
    let found = has_divisor b a b (omega arith) in
    subst (IsDivisor a b)
    (same_from_IsGcd a b found.0 divisor (is_gcd a b found.0 found.1) gcd) found.1

module _ (top bottom divisor : ℕ) (some : 0 < bottom) (gcd : IsGcd top bottom divisor) where
  is : IsDivisor top bottom divisor
  is = gcd_divisor top bottom divisor gcd

  whole_bottom : (bottom / divisor) * divisor ≡ bottom
  whole_bottom = div-mul_cancel divisor (dvd_of_mod-eq-zero divisor is.second)

  to : (times : ℕ) → (top * times) % bottom ≡ 0 → times % (bottom / divisor) ≡ 0
  to times whole =
      let own : (bottom * times) % bottom ≡ 0 = mul-mod_right bottom times in
      let both : bottom ∣ divisor * times =
      dvd_of_mod-eq-zero bottom (is.greatest times bottom whole own) in
      let moved : (bottom / divisor) * divisor ∣ times * divisor =
      subst (λ n. n ∣ times * divisor) (sym whole_bottom)
      (subst (λ n. bottom ∣ n) (mul_comm divisor times) both) in
      mod-eq-zero_of_dvd (bottom / divisor)
      (dvd_of_mul-dvd-mul_right (bottom / divisor)
      (divisor_some bottom divisor some is.second) moved)

  back : (times : ℕ) → times % (bottom / divisor) ≡ 0 → (top * times) % bottom ≡ 0
  back times divides =
      let quotient = top / divisor in
      let factor = times / (bottom / divisor) in
      let tops : quotient * divisor ≡ top =
      div-mul_cancel divisor (dvd_of_mod-eq-zero divisor is.first) in
      let all : factor * (bottom / divisor) ≡ times =
      div-mul_cancel (bottom / divisor) (dvd_of_mod-eq-zero (bottom / divisor) divides) in
      let same : top * times ≡ (quotient * factor) * bottom =
      ap (λ n. top * n) (sym all) ∙ ap (λ n. n * (factor * (bottom / divisor))) (sym tops)
      ∙ regrouped quotient divisor factor (bottom / divisor)
      ∙ ap (λ n. (quotient * factor) * n) whole_bottom in
      mod-eq-zero_of_dvd bottom
      (subst (λ n. bottom ∣ n) (sym same) (dvd-mul_left bottom (quotient * factor)))
    where
      regrouped : (q g f b : ℕ) → (q * g) * (f * b) ≡ (q * f) * (b * g)
      regrouped q g f b =
          mul-mul-mul_comm q g f b ∙ ap (λ n. (q * f) * n) (mul_comm g b)

  pub lowest_whole : (times : ℕ)
      → ((top * times) % bottom ≡ 0) ↔ (times % (bottom / divisor) ≡ 0)
  lowest_whole times = (to times, back times)
