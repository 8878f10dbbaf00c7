-- Laws of sums: parts of them, and ranges of numbers of which one counts.
use Rattle.std.proofs.Common.{◌≡◌, ◌≢◌, ◌⊎◌, ℕ, zero, suc, ◌+◌, ◌<◌, ◌≤◌, ◌==◌, Bool, true, false, List, [], ◌∷◌, length, Some, slice_get, if◌then◌else◌, ℤ, pos, ◌+ℤ◌, ◌-ℤ◌, ◌*ℤ◌, ◌≤ℤ◌, inl, inr, refl, sym, ap, ap₂, ◌∙◌, arith}
use Rattle.std.proofs.lemmas.Bool.Decides.{eqb_tells}
use Rattle.std.specs.List.{flat_map, range_with_len}
use Rattle.exact_sums.specs.Sums.{total}
use Rattle.exact_sums.proofs.SumFacts.{total-append}
use Rattle.row_arena.proofs.WholeLaws.{linear, sum_times, times_sum, times_zero, zero_times}

module _ {A : Type 0} where
  pub total_same : (f g : A → ℤ) (xs : List A) → ((x : A) → f x ≡ g x) → total f xs ≡ total g xs
  total_same f g [] same = refl
  total_same f g (x ∷ xs) same = omega (arith, linear, same x, total_same f g xs same)

  pub total_zero : (f : A → ℤ) (xs : List A) → ((x : A) → f x ≡ pos 0) → total f xs ≡ pos 0
  total_zero f [] zeros = refl
  total_zero f (x ∷ xs) zeros = omega (arith, linear, zeros x, total_zero f xs zeros)

  pub total_times : (c : ℤ) (f : A → ℤ) (xs : List A)
      → total (λ x. c *ℤ f x) xs ≡ c *ℤ total f xs
  total_times c f [] = sym (times_zero c)
  total_times c f (x ∷ xs) =
      omega (arith, linear, times_sum c (f x) (total f xs), total_times c f xs)

  -- less so many times another sum
  pub total_less : (f g : A → ℤ) (c : ℤ) (xs : List A)
      → total (λ x. f x -ℤ (g x *ℤ c)) xs ≡ total f xs -ℤ (total g xs *ℤ c)
  total_less f g c [] = omega (arith, linear, zero_times c)
  total_less f g c (x ∷ xs) =
      omega (arith, linear, sum_times (g x) (total g xs) c, total_less f g c xs)

  -- of all parts
  pub total_flat : {B : Type 0} (f : A → ℤ) (part : B → List A) (ys : List B)
      → total f (flat_map part ys) ≡ total (λ y. total f (part y)) ys
  total_flat f part [] = refl
  total_flat f part (y ∷ ys) =
      total-append f (part y) (flat_map part ys)
      ∙ ap (λ n. total f (part y) +ℤ n) (total_flat f part ys)

  -- of an item or of none
  pub total_one : (f : A → ℤ) (b : Bool) (x : A)
      → total f (if b then x ∷ [] else []) ≡ (if b then f x else pos 0)
  total_one f true x = omega (arith, linear)
  total_one f false x = refl

-- over a range
pub range_same : (f g : ℕ → ℤ) (from count : ℕ)
    → ((k : ℕ) → from ≤ k → k < from + count → f k ≡ g k)
    → total f (range_with_len from count) ≡ total g (range_with_len from count)
range_same f g from zero same = refl
range_same f g from (suc count) same =
    omega (
      arith,
      linear,
      same from (omega arith) (omega arith),
      range_same f g (from + 1) count
          (λ k past before. same k (omega (arith, past)) (omega (arith, before))),
    )

pub range_low : (f : ℕ → ℤ) (from count : ℕ)
    → ((k : ℕ) → from ≤ k → k < from + count → pos 0 ≤ℤ f k)
    → pos 0 ≤ℤ total f (range_with_len from count)
range_low f from zero low = omega (arith, linear)
range_low f from (suc count) low =
    omega (
      arith,
      linear,
      low from (omega arith) (omega arith),
      range_low f (from + 1) count
          (λ k past before. low k (omega (arith, past)) (omega (arith, before))),
    )

-- as long as a list
pub range_items : {A : Type 0} (f : ℕ → ℤ) (g : A → ℤ) (from : ℕ) (xs : List A)
    → ((i k : ℕ) (x : A) → k ≡ from + i → slice_get xs i ≡ Some x → f k ≡ g x)
    → total f (range_with_len from (length xs)) ≡ total g xs
range_items f g from [] same = refl
range_items f g from (x ∷ xs) same =
    ap₂ (λ (a b : ℤ). a +ℤ b) (same 0 from x (omega arith) refl)
    (range_items f g (from + 1) xs (λ i k y at here. same (suc i) k y (omega (arith, at)) here))

range_before : (f : ℕ → ℤ) (k from count : ℕ) → k < from → ((i : ℕ) → i ≢ k → f i ≡ pos 0)
    → total f (range_with_len from count) ≡ pos 0
range_before f k from zero before zeros = refl
range_before f k from (suc count) before zeros =
    omega (
      arith,
      linear,
      zeros from (λ same. omega (arith, same, before)),
      range_before f k (from + 1) count (omega (arith, before)) zeros,
    )

-- of which one number counts alone
pub range_one : (f : ℕ → ℤ) (k from count : ℕ) → from ≤ k → k < from + count
    → ((i : ℕ) → i ≢ k → f i ≡ pos 0) → total f (range_with_len from count) ≡ f k
range_one f k from zero past before zeros = absurd (omega (arith, past, before))
range_one f k from (suc count) past before zeros =
    by (eqb_tells from k) (λ other. range_one f k (from + 1) count (omega (arith, past, other))
    (omega (arith, before)) zeros)
  where
    by : ((from == k) ≡ true) × (from ≡ k) ⊎ ((from == k) ≡ false) × (from ≢ k)
        → (from ≢ k → total f (range_with_len (from + 1) count) ≡ f k)
        → f from +ℤ total f (range_with_len (from + 1) count) ≡ f k
    by (inl is) more =
        omega (
          arith,
          linear,
          ap f is.1,
          range_before f k (from + 1) count (omega (arith, is.1)) zeros,
        )
    by (inr isnt) more = omega (arith, linear, zeros from isnt.1, more isnt.1)
