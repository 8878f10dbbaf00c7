-- Laws of sums over the integers.
use Rattle.std.proofs.Common.{◌≡◌, ℕ, suc, ◌+◌, ◌<◌, List, [], ◌∷◌, ◌++◌, length, get_or, take, ℤ, pos, ◌+ℤ◌, ◌≤ℤ◌, All, sum_by, refl, ap, ◌∙◌, arith}
use Rattle.std.proofs.lemmas.List.{take_more}
use Rattle.std.proofs.lemmas.Int.{ints}
use Rattle.std.proofs.lemmas.List.Sums.{sum_by-cons}
use Rattle.exact_sums.specs.Sums.{total}

module _ {A : Type 0} where
  pub total-append : (value : A → ℤ) (xs ys : List A)
      → total value (xs ++ ys) ≡ total value xs +ℤ total value ys
  total-append value [] ys = omega (arith, ints)
  total-append value (x ∷ xs) ys = omega (arith, ints, total-append value xs ys)

  pub total-push : (value : A → ℤ) (xs : List A) (x : A)
      → total value (xs ++ x ∷ []) ≡ total value xs +ℤ value x
  total-push value xs x = omega (arith, ints, total-append value xs (x ∷ []))

  -- the sum over one item more of a list
  pub next_total : (value : A → ℤ) (xs : List A) (i : ℕ) (d : A) → i < length xs
      → total value (take (i + 1) xs) ≡ total value (take i xs) +ℤ value (get_or xs i d)
  next_total value xs i d within =
      ap (total value) (take_more xs i d within) ∙ total-push value (take i xs) (get_or xs i d)

  -- as a loop adds it to the sum so far
  pub next_sum : (value : A → ℤ) (xs : List A) (i : ℕ) (d : A) (sum part new : ℤ)
      → sum ≡ total value (take i xs) → part ≡ value (get_or xs i d) → i < length xs
      → new ≡ sum +ℤ part → new ≡ total value (take (i + 1) xs)
  next_sum value xs i d sum part new is here within added =
      omega (arith, ints, next_total value xs i d within, is, here, added)

  pub total-both : (f g : A → ℤ) (xs : List A)
      → total (λ x. f x +ℤ g x) xs ≡ total f xs +ℤ total g xs
  total-both f g [] = refl
  total-both f g (x ∷ xs) = omega (arith, ints, total-both f g xs)

  pub total-natural : (value : A → ℕ) (xs : List A)
      → total (λ x. pos (value x)) xs ≡ pos (sum_by value xs)
  total-natural value [] = refl
  total-natural value (x ∷ xs) = omega (arith, ints, total-natural value xs, sum_by-cons value x xs)

  pub total-le : (f g : A → ℤ) (xs : List A) → All (λ x. f x ≤ℤ g x) xs → total f xs ≤ℤ total g xs
  total-le f g [] each = omega (arith, ints)
  total-le f g (x ∷ xs) each =
      let first : f x ≤ℤ g x = each 0 x (omega arith) in
      let rest = total-le f g xs (λ k d within. each (suc k) d (omega arith)) in
      omega (arith, ints, first, rest)
