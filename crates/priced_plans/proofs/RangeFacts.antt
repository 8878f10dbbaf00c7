-- Sums over a range of numbers.
use Rattle.std.proofs.Common.{◌≡◌, ◌≢◌, ◌⊎◌, ℕ, zero, suc, ◌+◌, ◌-◌, ◌*◌, ◌<◌, ◌≤◌, ◌==◌, ◌&&◌, nat_le, nat_lt, sum_by, refl, ap, ap₂, ◌∙◌, inl, inr, arith}
use Rattle.std.specs.List.{range_with_len}
use Rattle.std.proofs.lemmas.Bool.{cases_eq, cases_lt}
use Rattle.std.proofs.lemmas.Bool.Decides.{nat_tests}
use Rattle.std.proofs.lemmas.List.Sums.{sum_by-cons}
use Rattle.flow_types.specs.Counts.{one_if}
use Rattle.flight_routes.specs.Prices.{summed}

module _ (f g : ℕ → ℕ) where
  -- a sum whose items are each at most those of another
  pub range-le : (from n : ℕ) → ((t : ℕ) → from ≤ t → t < from + n → f t ≤ g t)
      → sum_by f (range_with_len from n) ≤ sum_by g (range_with_len from n)
  range-le from zero each = omega arith
  range-le from (suc n) each =
      let here : f from ≤ g from = each from (omega arith) (omega arith) in
      let rest = range-le (from + 1) n
      (λ t after before. each t (omega (arith, after)) (omega (arith, before))) in
      omega (
        arith,
        here,
        rest,
        sum_by-cons f from (range_with_len (from + 1) n),
        sum_by-cons g from (range_with_len (from + 1) n),
      )

  -- a sum of the same items
  pub range-same : (from n : ℕ) → ((t : ℕ) → from ≤ t → t < from + n → f t ≡ g t)
      → sum_by f (range_with_len from n) ≡ sum_by g (range_with_len from n)
  range-same from zero each = refl
  range-same from (suc n) each =
      let here : f from ≡ g from = each from (omega arith) (omega arith) in
      let rest = range-same (from + 1) n
      (λ t after before. each t (omega (arith, after)) (omega (arith, before))) in
      omega (
        arith,
        here,
        rest,
        sum_by-cons f from (range_with_len (from + 1) n),
        sum_by-cons g from (range_with_len (from + 1) n),
      )

  -- a sum whose items are each those of two others together
  pub range-both : (h : ℕ → ℕ) (from n : ℕ) → ((t : ℕ) → h t ≡ f t + g t)
      → sum_by h (range_with_len from n)
      ≡ sum_by f (range_with_len from n) + sum_by g (range_with_len from n)
  range-both h from zero each = refl
  range-both h from (suc n) each =
      omega (
        arith,
        each from,
        range-both h (from + 1) n each,
        sum_by-cons f from (range_with_len (from + 1) n),
        sum_by-cons g from (range_with_len (from + 1) n),
        sum_by-cons h from (range_with_len (from + 1) n),
      )

module _ (f : ℕ → ℕ) where
  -- a sum of nothing
  pub range-none : (from n : ℕ) → ((t : ℕ) → from ≤ t → t < from + n → f t ≡ 0)
      → sum_by f (range_with_len from n) ≡ 0
  range-none from zero each = refl
  range-none from (suc n) each =
      let here : f from ≡ 0 = each from (omega arith) (omega arith) in
      let rest = range-none (from + 1) n
      (λ t after before. each t (omega (arith, after)) (omega (arith, before))) in
      omega (arith, here, rest, sum_by-cons f from (range_with_len (from + 1) n))

  -- one range after another
  range-split : (from m n whole : ℕ) → whole ≡ m + n
      → sum_by f (range_with_len from whole)
      ≡ sum_by f (range_with_len from m) + sum_by f (range_with_len (from + m) n)
  range-split from zero n whole is =
      let all = ap₂ (λ i k. sum_by f (range_with_len i k)) (front from) (same whole n is) in
      omega (arith, all)
    where
      front : (k : ℕ) → k ≡ k + 0
      front k = omega arith

      same : (a b : ℕ) → a ≡ 0 + b → a ≡ b
      same a b e = omega (arith, e)
  range-split from (suc m) n zero is = absurd (omega (arith, is))
  range-split from (suc m) n (suc whole) is =
      let more = ap (λ i. sum_by f (range_with_len i n)) (next from m) in
      omega (
        arith,
        more,
        range-split (from + 1) m n whole (omega (arith, is)),
        sum_by-cons f from (range_with_len (from + 1) whole),
        sum_by-cons f from (range_with_len (from + 1) m),
      )
    where
      next : (k i : ℕ) → k + 1 + i ≡ k + suc i
      next k i = omega arith

  -- the one item that there is
  alone_by : (chosen from n : ℕ) → (from ≡ chosen) ⊎ (from ≡ chosen → ⊥)
      → ((t : ℕ) → t ≢ chosen → f t ≡ 0)
      → (from ≢ chosen → sum_by f (range_with_len (from + 1) n) ≡ f chosen)
      → sum_by f (range_with_len from (suc n)) ≡ f chosen
  alone_by chosen from n (inl here) others later =
      let none = range-none (from + 1) n
      (λ t after within. others t (λ same. omega (arith, same, here, after))) in
      omega (arith, none, ap f here, sum_by-cons f from (range_with_len (from + 1) n))
  alone_by chosen from n (inr apart) others later =
      omega (
        arith,
        later apart,
        others from apart,
        sum_by-cons f from (range_with_len (from + 1) n),
      )

  pub range-alone : (chosen from n : ℕ) → from ≤ chosen → chosen < from + n
      → ((t : ℕ) → t ≢ chosen → f t ≡ 0) → sum_by f (range_with_len from n) ≡ f chosen
  range-alone chosen from zero after before others = absurd (omega (arith, after, before))
  range-alone chosen from (suc n) after before others =
      alone_by chosen from n (cases_eq from chosen) others
      (λ apart. range-alone chosen (from + 1) n (omega (arith, after, apart))
      (omega (arith, before)) others)

-- a sum whose items are those of a price within a range, and 0 outside
range-part : (f price : ℕ → ℕ) (from m n : ℕ) → from + m ≤ n
    → ((t : ℕ) → t < from → f t ≡ 0)
    → ((t : ℕ) → from ≤ t → t < from + m → f t ≡ price t)
    → ((t : ℕ) → from + m ≤ t → f t ≡ 0)
    → sum_by f (range_with_len 0 n) ≡ sum_by price (range_with_len from m)
range-part f price from m n within before inside after =
    let rest = n - (from + m) in
    let first = range-none f 0 from (λ t a b. before t (omega (arith, b))) in
    let middle = range-same f price from m inside in
    let last = range-none f (from + m) rest (λ t a b. after t a) in
    let one = range-split f 0 from (m + rest) n (omega (arith, within)) in
    let two = range-split f from m rest (m + rest) refl in
    let front = ap (λ i. sum_by f (range_with_len i (m + rest))) (start from) in
    omega (arith, first, middle, last, one, front, two)
  where
    start : (k : ℕ) → 0 + k ≡ k
    start k = omega arith

-- a price times what is counted, and what isn't
times_one : (p c : ℕ) → c ≡ 1 → p * c ≡ p
times_one p c once = ap (λ m. p * m) once ∙ omega arith

pub times_none : (p c : ℕ) → c ≡ 0 → p * c ≡ 0
times_none p c none = ap (λ m. p * m) none ∙ omega arith

-- the price of one period
pub summed-at : (price : ℕ → ℕ) (at n : ℕ) → at < n
    → sum_by (λ t. price t * one_if (at == t)) (range_with_len 0 n) ≡ price at
summed-at price at n within =
    range-alone (λ t. price t * one_if (at == t)) at 0 n (omega arith) (omega (arith, within))
    (λ t other. times_none (price t) (one_if (at == t)) (apart at t other))
    ∙ times_one (price at) (one_if (at == at)) (same at)
  where
    apart : (a t : ℕ) → t ≢ a → one_if (a == t) ≡ 0
    apart a t other = grind (arith, nat_tests)

    same : (a : ℕ) → one_if (a == a) ≡ 1
    same a = grind (arith, nat_tests)

-- a price for each period from one up to another
pub summed-between : (price : ℕ → ℕ) (from to n : ℕ) → to ≤ n
    → sum_by (λ t. price t * one_if (nat_le from t && nat_lt t to)) (range_with_len 0 n)
    ≡ summed price from to
summed-between price from to n within = by (cases_lt from to) where
  inside : (t : ℕ) → from ≤ t → t < to → one_if (nat_le from t && nat_lt t to) ≡ 1
  inside t after before = grind (arith, nat_tests)

  early : (t : ℕ) → t < from → one_if (nat_le from t && nat_lt t to) ≡ 0
  early t before = grind (arith, nat_tests)

  late : (t : ℕ) → to ≤ t → one_if (nat_le from t && nat_lt t to) ≡ 0
  late t after = grind (arith, nat_tests)

  none : (m : ℕ) → m ≡ 0 → to ≤ from
      → sum_by (λ t. price t * one_if (nat_le from t && nat_lt t to)) (range_with_len 0 n)
      ≡ sum_by price (range_with_len from m)
  none zero is empty =
      range-none (λ t. price t * one_if (nat_le from t && nat_lt t to)) 0 n
      (λ t a b. times_none (price t) (one_if (nat_le from t && nat_lt t to))
      (either t (cases_lt t from)))
    where
      either : (t : ℕ) → (t < from) ⊎ (from ≤ t)
          → one_if (nat_le from t && nat_lt t to) ≡ 0
      either t (inl before) = early t before
      either t (inr after) = late t (omega (arith, after, empty))
  none (suc m) is empty = absurd (omega (arith, is))

  by : (from < to) ⊎ (to ≤ from)
      → sum_by (λ t. price t * one_if (nat_le from t && nat_lt t to)) (range_with_len 0 n)
      ≡ summed price from to
  by (inl before) =
      range-part (λ t. price t * one_if (nat_le from t && nat_lt t to)) price from (to - from) n
      (omega (arith, before, within))
      (λ t a. times_none (price t) (one_if (nat_le from t && nat_lt t to)) (early t a))
      (λ t a b. times_one (price t) (one_if (nat_le from t && nat_lt t to))
      (inside t a (omega (arith, b, before))))
      (λ t a. times_none (price t) (one_if (nat_le from t && nat_lt t to))
      (late t (omega (arith, a, before))))
  by (inr after) = none (to - from) (omega (arith, after)) after

-- a price for each period from one on
pub summed-since : (price : ℕ → ℕ) (from n : ℕ)
    → sum_by (λ t. price t * one_if (nat_le from t)) (range_with_len 0 n) ≡ summed price from n
summed-since price from n =
    range-same (λ t. price t * one_if (nat_le from t))
    (λ t. price t * one_if (nat_le from t && nat_lt t n)) 0 n
    (λ t a b. ap (λ (m : ℕ). price t * m) (in_day t (omega (arith, b))))
    ∙ summed-between price from n n (omega arith)
  where
    in_day : (t : ℕ) → t < n → one_if (nat_le from t) ≡ one_if (nat_le from t && nat_lt t n)
    in_day t before = grind (arith, nat_tests)
