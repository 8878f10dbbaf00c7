-- Dividing and rounding up.
use Rattle.std.proofs.Common.{◌≡◌, ◌⊎◌, ℕ, zero, suc, ◌+◌, ◌-◌, ◌*◌, ◌/◌, ◌<◌, ◌≤◌, ◌^◌, true, false, ℤ, pos, negsuc, neg_ℤ, ◌+ℤ◌, ◌*ℤ◌, ◌≤ℤ◌, unsigned_abs, inl, inr, sym, ap, ◌∙◌, subst, SFits, of_z, to_z, arith}
use mir.Syntax.{w128}
use Rattle.std.specs.Prelude.{int_lt}
use Rattle.std.proofs.lemmas.Bool.{cases_lt}
use Rattle.std.proofs.lemmas.Int.{fits_signed_from_abs, ints, to_z-of_z}
use Rattle.std.proofs.lemmas.Nat.{le-div}
use Rattle.std.proofs.Math.Nat.{div-le_self, div-mul-le_self, lt-div-mul-add, mul-le-mul_left, mul-le-mul_right, suc-mul}
use Rattle.std.proofs.Math.IntN.{*ℤ-zero, *ℤ_comm, zero-*ℤ}
use Rattle.exact_sums.proofs.ProductFacts.{times-more}
use Rattle.exact_sums.specs.Near.{IsNear}
use Rattle.priced_plans.specs.PricedBound.{IsRoundedUp}

-- what the code takes a number for
pub whole : (z : ℤ) → SFits w128 z → to_z w128 (of_z w128 z) ≡ z
whole z fits = to_z-of_z w128 z fits

pub whole_wide : (z : ℤ) → unsigned_abs z < 2 ^ 127 → to_z w128 (of_z w128 z) ≡ z
whole_wide z small = whole z (fits_signed_from_abs w128 z (omega (arith, small)))

-- so many times a number below 0
neg-times : (n w : ℕ) → neg_ℤ (pos n) *ℤ pos w ≡ neg_ℤ (pos (n * w))
neg-times n zero = omega (arith, ints, *ℤ-zero (neg_ℤ (pos n)))
neg-times n (suc w) =
    let more = *ℤ_comm (neg_ℤ (pos n)) (pos (suc w)) ∙ times-more w (neg_ℤ (pos n))
    ∙ ap (λ b. b +ℤ neg_ℤ (pos n)) (*ℤ_comm (pos w) (neg_ℤ (pos n))) in
    let grown : n * suc w ≡ n * w + n = omega arith in
    omega (arith, ints, more, neg-times n w, grown)

minus-times : (n w : ℕ) → negsuc n *ℤ pos w ≡ neg_ℤ (pos (suc n * w))
minus-times n w = neg-times (suc n) w

-- no greater, once it is divided
under : (a b w : ℕ) → a * w ≤ b * w + (w - 1) → 0 < w → a ≤ b
under a b w le some = by (cases_lt b a)
  where
    by : (b < a) ⊎ (a ≤ b) → a ≤ b
    by (inr fine) = fine
    by (inl more) =
        let far : suc b * w ≤ a * w = mul-le-mul_right w more in
        let grown : suc b * w ≡ b * w + w = suc-mul b w in
        absurd (omega (arith, far, grown, le, some))

pub rounded_above : (size w : ℕ) → 0 < size → 0 < w
    → IsRoundedUp (pos size) w (pos ((size + (w - 1)) / w))
rounded_above size w some weight = record {
  reached = let lt : size + (w - 1) < (size + (w - 1)) / w * w + w = lt-div-mul-add weight in
      omega (arith, ints, lt, weight);
  below = λ c. by c;
}
  where
    up : ℕ
    up = (size + (w - 1)) / w

    by : (c : ℤ) → pos size ≤ℤ (c *ℤ pos w) → pos ((size + (w - 1)) / w) ≤ℤ c
    by (pos n) le =
        let no_more = div-mul-le_self (size + (w - 1)) w in
        let fits : size ≤ n * w = omega (arith, ints, le) in
        let least = under up n w (omega (arith, no_more, fits)) weight in
        omega (arith, ints, least)
    by (negsuc n) le =
        let down = minus-times n w in
        absurd (omega (arith, ints, le, down, some))

pub rounded_below : (size w : ℕ) → 0 < w
    → IsRoundedUp (neg_ℤ (pos size)) w (neg_ℤ (pos (size / w)))
rounded_below size w weight = record {
  reached =
      let no_more = div-mul-le_self size w in
      let turned = neg-times (size / w) w in
      omega (arith, ints, no_more, turned);
  below = λ c. by c;
}
  where
    by : (c : ℤ) → neg_ℤ (pos size) ≤ℤ (c *ℤ pos w) → neg_ℤ (pos (size / w)) ≤ℤ c
    by (pos n) le = omega (arith, ints)
    by (negsuc n) le =
        let down = minus-times n w in
        let fits : suc n * w ≤ size = omega (arith, ints, le, down) in
        let most = le-div (suc n) size w weight fits in
        omega (arith, ints, most)

pub rounded_positive : (value up : ℤ) (w : ℕ) → int_lt (pos 0) value ≡ true → 0 < w
    → up ≡ pos ((unsigned_abs value + (w - 1)) / w) → IsRoundedUp value w up
rounded_positive (pos n) up w some weight is =
    subst (IsRoundedUp (pos n) w) (sym is) (rounded_above n w (omega (arith, ints, some)) weight)
rounded_positive (negsuc n) up w some weight is = absurd (omega (arith, ints, some))

pub rounded_negative : (value up : ℤ) (w : ℕ) → int_lt (pos 0) value ≡ false → 0 < w
    → up ≡ neg_ℤ (pos (unsigned_abs value / w)) → IsRoundedUp value w up
rounded_negative (pos zero) up w none weight is =
    subst (IsRoundedUp (pos 0) w) (sym is) (rounded_below 0 w weight)
rounded_negative (pos (suc n)) up w none weight is = absurd (omega (arith, ints, none))
rounded_negative (negsuc n) up w none weight is =
    subst (IsRoundedUp (negsuc n) w) (sym is) (rounded_below (suc n) w weight)

pub above_small : (size w : ℕ) → size < 2 ^ 126 → w < 2 ^ 64
    → unsigned_abs (pos ((size + (w - 1)) / w)) < 2 ^ 127
above_small size w small weight =
    let le = div-le_self (size + (w - 1)) w in omega (arith, le, small, weight)

pub below_small : (size w : ℕ) → size < 2 ^ 126 → unsigned_abs (neg_ℤ (pos (size / w))) < 2 ^ 127
below_small size w small = let le = div-le_self size w in omega (arith, ints, le, small)

-- the size of a number that is near
pub size_small : (value : ℤ) → IsNear (2 ^ 123) value → unsigned_abs value < 2 ^ 126
size_small (pos n) near = omega (arith, ints, near.high)
size_small (negsuc n) near = omega (arith, ints, near.low)

-- what is rounded is no further from 0
pub rounded_near : (value up : ℤ) (w : ℕ) → 0 < w → IsRoundedUp value w up
    → unsigned_abs up ≤ unsigned_abs value
rounded_near (pos v) (pos n) w weight is =
    let more : v * 1 ≤ v * w = mul-le-mul_left v weight in
    let least = is.below (pos v) (omega (arith, ints, more)) in
    omega (arith, ints, least)
rounded_near (pos v) (negsuc n) w weight is =
    let down = minus-times n w in
    let some : suc n * w ≡ n * w + w = suc-mul n w in
    let reached = is.reached in
    absurd (omega (arith, ints, reached, down, some, weight))
rounded_near (negsuc v) (pos n) w weight is =
    let none : pos 0 *ℤ pos w ≡ pos 0 = zero-*ℤ (pos w) in
    let least = is.below (pos 0) (omega (arith, ints, none)) in
    omega (arith, ints, least)
rounded_near (negsuc v) (negsuc n) w weight is =
    let down = minus-times n w in
    let more : suc n * 1 ≤ suc n * w = mul-le-mul_left (suc n) weight in
    let reached = is.reached in
    omega (arith, ints, reached, down, more)

near_within : (value : ℤ) → IsNear (2 ^ 123) value → unsigned_abs value < 2 ^ 124
near_within (pos n) near = let up = near.high in omega (arith, ints, up)
near_within (negsuc n) near = let down = near.low in omega (arith, ints, down)

pub rounded_within : (value up : ℤ) (weight : ℕ) → 0 < weight → IsNear (2 ^ 123) value
    → IsRoundedUp value weight up → unsigned_abs up < 2 ^ 124
rounded_within value up weight some near rounded =
    let small = near_within value near in
    let le = rounded_near value up weight some rounded in
    omega (arith, small, le)

-- and much nearer to 0 with a weight of at least 2^10
pub rounded_closer : (value up : ℤ) (w : ℕ) → IsNear (2 ^ 123) value
    → IsRoundedUp value w up → 2 ^ 10 ≤ w → unsigned_abs up < 2 ^ 115
rounded_closer value (pos n) w near is heavy =
    let more : 2 ^ 113 * 2 ^ 10 ≤ 2 ^ 113 * w = mul-le-mul_left (2 ^ 113) heavy in
    let up = near.high in
    let least = is.below (pos (2 ^ 113)) (omega (arith, ints, more, up)) in
    omega (arith, ints, least)
rounded_closer value (negsuc n) w near is heavy =
    let turned = minus-times n w in
    let more : suc n * 2 ^ 10 ≤ suc n * w = mul-le-mul_left (suc n) heavy in
    let reached = is.reached in
    let down = near.low in
    omega (arith, ints, reached, turned, more, down)
