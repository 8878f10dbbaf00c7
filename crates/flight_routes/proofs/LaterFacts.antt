-- Sums of prices over the periods from each one on.
use Rattle.std.proofs.Common.{◌≡◌, ◌⊎◌, ℕ, zero, suc, ◌+◌, ◌-◌, ◌*◌, ◌^◌, ◌<◌, ◌≤◌, List, length, get_or, sum_by, refl, sym, ap, ◌∙◌, inl, inr, arith}
use Rattle.std.specs.List.{range_with_len}
use Rattle.std.proofs.lemmas.Bool.{cases_eq}
use Rattle.std.proofs.lemmas.List.Sums.{sum_by-cons}
use Rattle.flight_routes.specs.Prices.{summed}

-- no period, and one more before the others
pub summed_none : (price : ℕ → ℕ) (from to : ℕ) → to ≤ from → summed price from to ≡ 0
summed_none price from to past =
    let none : to - from ≡ 0 = omega arith in
    ap (λ n. sum_by price (range_with_len from n)) none

pub summed_step : (price : ℕ → ℕ) (from to : ℕ) → from < to
    → summed price from to ≡ price from + summed price (from + 1) to
summed_step price from to before =
    let one : to - from ≡ suc (to - (from + 1)) = omega arith in
    ap (λ n. sum_by price (range_with_len from n)) one
    ∙ sum_by-cons price from (range_with_len (from + 1) (to - (from + 1)))

-- up to one in between, and from there
summed_by : (price : ℕ → ℕ) (k from mid to : ℕ) → mid ≡ from + k → mid ≤ to
    → summed price from to ≡ summed price from mid + summed price mid to
summed_by price zero from mid to is within =
    let same : from ≡ mid = omega (arith, is) in
    omega (arith, summed_none price from mid (omega arith), ap (λ n. summed price n to) same)
summed_by price (suc k) from mid to is within =
    let one = summed_step price from to (omega (arith, is, within)) in
    let first = summed_step price from mid (omega (arith, is)) in
    let rest = summed_by price k (from + 1) mid to (omega (arith, is)) within in
    omega (arith, one, first, rest)

pub summed_join : (price : ℕ → ℕ) (from mid to : ℕ) → from ≤ mid → mid ≤ to
    → summed price from to ≡ summed price from mid + summed price mid to
summed_join price from mid to low high =
    summed_by price (mid - from) from mid to (omega arith) high

-- and one more at the end
pub summed_more : (price : ℕ → ℕ) (from n : ℕ) → from ≤ n
    → summed price from (n + 1) ≡ summed price from n + price n
summed_more price from n low =
    omega (
      arith,
      summed_join price from n (n + 1) low (omega arith),
      summed_step price n (n + 1) (omega arith),
      summed_none price (n + 1) (n + 1) (omega arith),
    )

-- The sums of the periods from one on are told, as far as they are in a window, and the others
-- there are as they were.
pub record AddsLater (price : ℕ → ℕ) (lo hi shift periods time sum : ℕ) (old new : List ℕ)
    : Type 0 where
  pub long : length new ≡ length old
  pub within : time ≤ periods
  pub sum_is : sum ≡ summed price time periods
  pub few : sum + time * 2 ^ 62 ≤ periods * 2 ^ 62
  pub done : (t : ℕ) → lo ≤ t → t ≤ hi → time ≤ t + shift
      → get_or new t 0 ≡ get_or old t 0 + summed price (t + shift) periods
  pub left : (t : ℕ) → t ≤ hi → t + shift < time → get_or new t 0 ≡ get_or old t 0
  pub grown : (t : ℕ) → t ≤ hi → get_or new t 0 ≤ get_or old t 0 + periods * 2 ^ 62

pub adds_none : (price : ℕ → ℕ) (lo hi shift periods : ℕ) (sums : List ℕ)
    → AddsLater price lo hi shift periods periods 0 sums sums
adds_none price lo hi shift periods sums = record {
  long = refl;
  within = omega arith;
  sum_is = sym (summed_none price periods periods (omega arith));
  few = omega arith;
  done = λ t low high past.
      omega (arith, summed_none price (t + shift) periods past);
  left = λ t high before. refl;
  grown = λ t high. omega arith;
}

module _ (price : ℕ → ℕ) (lo hi shift periods before time sum value at : ℕ)
    (old new added : List ℕ) (next : before ≡ time + 1)
    (adds : AddsLater price lo hi shift periods before sum old new) (above : shift ≤ time)
    (at_is : at ≡ time - shift) (value_is : value ≡ price time) (one : price time < 2 ^ 62)
    (long : length added ≡ length new)
    (here : at ≤ hi → get_or added at 0 ≡ get_or new at 0 + (sum + value))
    (others : (t : ℕ) → t ≤ hi → (t ≡ at → ⊥) → get_or added t 0 ≡ get_or new t 0) where
  more : sum + value ≡ summed price time periods
  more =
      let step = summed_step price time periods (omega (arith, next, adds.within)) in
      omega (arith, step, adds.sum_is, value_is, ap (λ n. summed price n periods) next)

  done_by : (t : ℕ) → lo ≤ t → t ≤ hi → time ≤ t + shift → (t ≡ at) ⊎ (t ≡ at → ⊥)
      → get_or added t 0 ≡ get_or old t 0 + summed price (t + shift) periods
  done_by t low high from (inl same) =
      let is : t + shift ≡ time = omega (arith, same, at_is, above) in
      let was = adds.left t high (omega (arith, is, next)) in
      ap (λ n. get_or added n 0) same ∙ here (omega (arith, same, high))
      ∙ ap (λ n. get_or new n 0 + (sum + value)) (sym same)
      ∙ ap (λ n. n + (sum + value)) was
      ∙ ap (λ n. get_or old t 0 + n) (more ∙ ap (λ n. summed price n periods) (sym is))
  done_by t low high from (inr other) =
      others t high other
      ∙ adds.done t low high (omega (arith, other, at_is, above, from, next))

  grown_by : (t : ℕ) → t ≤ hi → (t ≡ at) ⊎ (t ≡ at → ⊥)
      → get_or added t 0 ≤ get_or old t 0 + periods * 2 ^ 62
  grown_by t high (inl same) =
      let is : t + shift ≡ time = omega (arith, same, at_is, above) in
      let was = adds.left t high (omega (arith, is, next)) in
      let now = ap (λ n. get_or added n 0) same ∙ here (omega (arith, same, high))
      ∙ ap (λ n. get_or new n 0 + (sum + value)) (sym same) in
      omega (arith, now, was, adds.few, one, value_is, next)
  grown_by t high (inr other) = omega (arith, others t high other, adds.grown t high)

  pub adds_more : AddsLater price lo hi shift periods time (sum + value) old added
  adds_more = record {
    long = long ∙ adds.long;
    within = omega (arith, adds.within, next);
    sum_is = more;
    few = omega (arith, adds.few, one, value_is, next);
    done = λ t low high from. done_by t low high from (cases_eq t at);
    left = λ t high early.
        others t high (λ e. absurd (omega (arith, e, at_is, above, early)))
        ∙ adds.left t high (omega (arith, early, next));
    grown = λ t high. grown_by t high (cases_eq t at);
  }
