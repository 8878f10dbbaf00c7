-- The greatest common divisor of two numbers, also of both so often; and the least multiple of a
-- denominator by which a fraction is whole.
use Rattle.std.proofs.Common.{◌≡◌, ℕ, ◌+◌, ◌*◌, ◌/◌, ◌%◌, ◌^◌, ◌<◌, ◌≤◌, pos, ◌*ℤ◌, sym, ap, ◌∙◌, subst, arith}
use Prim.Native.Nat.{◌∣◌}
use Rattle.std.proofs.lemmas.Int.{ints}
use Rattle.std.proofs.lemmas.Nat.{mul-le}
use Rattle.std.proofs.lemmas.Nat.Gcd.{dvd_of_mod-eq-zero, dvd_refl, mod-eq-zero_of_dvd}
use Rattle.std.proofs.Math.Nat.{add-mul, div-mul_cancel, dvd-add_iff_left, dvd-mod_iff, dvd-mul_left, dvd-mul_right_of_dvd, dvd_of_mul-dvd-mul_right, mod-add-div, mul-dvd-mul_left, mul-mod_right, mul_assoc, mul_comm, mul_right_comm}
use Rattle.row_arena.specs.Rows.{most_entry}
use Rattle.scaled_simplex.specs.Multiples.{IsDivisor, IsLeastWith}

-- Euclid's step, and its end
scaled_mod : (a b times : ℕ) → a * times ≡ (a % b) * times + (b * times) * (a / b)
scaled_mod a b times =
    ap (λ n. n * times) (sym (mod-add-div a b)) ∙ add-mul (a % b) (b * (a / b)) times
    ∙ ap (λ n. (a % b) * times + n) (mul_right_comm b (a / b) times)

pub divisor_step : (a b divisor : ℕ) → IsDivisor b (a % b) divisor → IsDivisor a b divisor
divisor_step a b divisor is = record {
  first = mod-eq-zero_of_dvd divisor
      ((dvd-mod_iff divisor (dvd_of_mod-eq-zero divisor is.first)).0
      (dvd_of_mod-eq-zero divisor is.second));
  second = is.first;
  greatest = λ times d by_a by_b.
      let rest : d ∣ (b * times) * (a / b) =
      dvd-mul_right_of_dvd d (dvd_of_mod-eq-zero d by_b) (a / b) in
      let whole : d ∣ (a % b) * times + (b * times) * (a / b) =
      subst (λ n. d ∣ n) (scaled_mod a b times) (dvd_of_mod-eq-zero d by_a) in
      is.greatest times d by_b
      (mod-eq-zero_of_dvd d ((dvd-add_iff_left d rest).1 whole));
}

pub divisor_end : (a b : ℕ) → b ≡ 0 → IsDivisor a b a
divisor_end a b none = record {
  first = mod-eq-zero_of_dvd a (dvd_refl a);
  second = subst (λ n. n % a ≡ 0) (sym none) (none_left a);
  greatest = λ times d by_a by_b. by_a;
}
  where
    none_left : (n : ℕ) → 0 % n ≡ 0
    none_left n = omega arith

divided_some : (a divisor : ℕ) → 0 < a → a % divisor ≡ 0 → 0 < a / divisor
divided_some a divisor some none =
    by (a / divisor) (div-mul_cancel divisor (dvd_of_mod-eq-zero divisor none))
  where
    by : (factor : ℕ) → factor * divisor ≡ a → 0 < factor
    by factor is = grind arith

pub divisor_some : (a divisor : ℕ) → 0 < a → a % divisor ≡ 0 → 0 < divisor
divisor_some a divisor some none =
    by (a / divisor) (div-mul_cancel divisor (dvd_of_mod-eq-zero divisor none))
  where
    by : (factor : ℕ) → factor * divisor ≡ a → 0 < divisor
    by factor is = grind arith

module _ (denominator top bottom divisor : ℕ) (some : 0 < denominator) (bottom_some : 0 < bottom)
    (is : IsDivisor bottom ((top * denominator) % bottom) divisor) where
  abbrev factor : ℕ
  factor = bottom / divisor

  of_both : IsDivisor (top * denominator) bottom divisor
  of_both = divisor_step (top * denominator) bottom divisor is

  pub some_divisor : 0 < divisor
  some_divisor = divisor_some bottom divisor bottom_some is.first

  factor_some : 0 < factor
  factor_some = divided_some bottom divisor bottom_some is.first

  whole_bottom : factor * divisor ≡ bottom
  whole_bottom = div-mul_cancel divisor (dvd_of_mod-eq-zero divisor is.first)

  -- the top so often is a multiple of the bottom
  regrouped : (a f g q : ℕ) → q * g ≡ a → a * f ≡ q * (f * g)
  regrouped a f g q is =
      ap (λ n. n * f) (sym is) ∙ mul_assoc q g f ∙ ap (λ n. q * n) (mul_comm g f)

  whole : (top * (denominator * factor)) % bottom ≡ 0
  whole =
      let quotient = (top * denominator) / divisor in
      let same : top * (denominator * factor) ≡ quotient * bottom =
      sym (mul_assoc top denominator factor)
      ∙ regrouped (top * denominator) factor divisor quotient
      (div-mul_cancel divisor (dvd_of_mod-eq-zero divisor of_both.first))
      ∙ ap (λ n. quotient * n) whole_bottom in
      mod-eq-zero_of_dvd bottom (subst (λ n. bottom ∣ n) (sym same) (dvd-mul_left bottom quotient))

  least : (times : ℕ) → times % denominator ≡ 0 → (top * times) % bottom ≡ 0
      → times % (denominator * factor) ≡ 0
  least times by_denominator by_bottom =
      let share = times / denominator in
      let parts : denominator * share ≡ times =
      mul_comm denominator share
      ∙ div-mul_cancel denominator (dvd_of_mod-eq-zero denominator by_denominator) in
      let one : ((top * denominator) * share) % bottom ≡ 0 =
      subst (λ n. n % bottom ≡ 0) (sym (mul_assoc top denominator share ∙ ap (λ n. top * n) parts))
      by_bottom in
      let two : (bottom * share) % bottom ≡ 0 = mul-mod_right bottom share in
      let both : bottom ∣ divisor * share =
      dvd_of_mod-eq-zero bottom (of_both.greatest share bottom one two) in
      let moved : factor * divisor ∣ share * divisor =
      subst (λ n. n ∣ share * divisor) (sym whole_bottom)
      (subst (λ n. bottom ∣ n) (mul_comm divisor share) both) in
      let divides : factor ∣ share = dvd_of_mul-dvd-mul_right factor some_divisor moved in
      mod-eq-zero_of_dvd (denominator * factor)
      (subst (λ n. denominator * factor ∣ n) parts (mul-dvd-mul_left factor denominator divides))

  pub least_with : denominator ≤ most_entry → bottom ≤ most_entry
      → IsLeastWith denominator top bottom (denominator * (bottom / divisor))
  least_with near bottom_near = record {
    positive = product_some denominator factor some factor_some;
    below =
        let small : factor ≤ bottom = omega (arith, whole_bottom, some_divisor) in
        let le : denominator * factor ≤ most_entry * most_entry =
        mul-le denominator factor most_entry most_entry near (omega (arith, small, bottom_near)) in
        omega (arith, le);
    is = mul-mod_right denominator factor;
    whole = whole;
    least = least;
  }
    where
      product_some : (a b : ℕ) → 0 < a → 0 < b → 0 < a * b
      product_some a b one two = grind arith

pub product_near : (a b : ℕ) → a ≤ most_entry → b ≤ most_entry → a * b < 2 ^ 124
product_near a b left right =
    let le : a * b ≤ most_entry * most_entry = mul-le a b most_entry most_entry left right in
    omega (arith, le)

-- a fraction over a denominator by which it is whole
pub numerator_is : (top bottom denominator : ℕ) → (top * denominator) % bottom ≡ 0
    → pos bottom *ℤ pos ((top * denominator) / bottom) ≡ pos top *ℤ pos denominator
numerator_is top bottom denominator none =
    let back : bottom * ((top * denominator) / bottom) ≡ top * denominator =
    mul_comm bottom ((top * denominator) / bottom)
    ∙ div-mul_cancel bottom (dvd_of_mod-eq-zero bottom none) in
    omega (arith, ints, back)

pub numerator_near : (size bottom : ℕ) → size < 2 ^ 124 → size / bottom < 2 ^ 127
numerator_near size bottom small = omega (arith, small)
