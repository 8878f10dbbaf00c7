-- Products of the first numbers of a function, and of functions that differ at one place.
use Rattle.std.proofs.Common.{◌≡◌, ℕ, zero, suc, ◌+◌, ◌*◌, ◌<◌, ◌≤◌, inl, inr, refl, sym, ap₂, subst, arith}
use Rattle.std.proofs.lemmas.Bool.{cases_eq}
use Rattle.std.proofs.lemmas.Nat.{mul-le}
use Rattle.std.proofs.Math.Nat.{add-mul, mul-add, mul-le-mul_left, mul-le-mul_right}
use Rattle.tree_search.specs.Budgets.{product}

pub product_le : (f g : ℕ → ℕ) (count : ℕ) → ((j : ℕ) → j < count → f j ≤ g j)
    → product f count ≤ product g count
product_le f g zero below = omega arith
product_le f g (suc count) below =
    mul-le (f count) (product f count) (g count) (product g count) (below count (omega arith))
    (product_le f g count (λ j less. below j (omega (arith, less))))

pub product_same : (f g : ℕ → ℕ) (count : ℕ) → ((j : ℕ) → j < count → f j ≡ g j)
    → product f count ≡ product g count
product_same f g zero same = refl
product_same f g (suc count) same =
    ap₂ (λ a b. a * b) (same count (omega arith))
    (product_same f g count (λ j less. same j (omega (arith, less))))

pub product_some : (f : ℕ → ℕ) (count : ℕ) → ((j : ℕ) → j < count → 1 ≤ f j)
    → 1 ≤ product f count
product_some f zero some = omega arith
product_some f (suc count) some =
    mul-le 1 1 (f count) (product f count) (some count (omega arith))
    (product_some f count (λ j less. some j (omega (arith, less))))

-- one of the numbers is 2 or more, and the others aren't 0
pub product_several : (f : ℕ → ℕ) (count k : ℕ) → k < count
    → ((j : ℕ) → j < count → 1 ≤ f j) → 2 ≤ f k → 2 ≤ product f count
product_several f zero k below some several = absurd (omega (arith, below))
product_several f (suc count) k below some several =
    elim (cases_eq k count) as (λ _. 2 ≤ f count * product f count) [
      | inl last ↦ mul-le 2 1 (f count) (product f count) (subst (λ j. 2 ≤ f j) last several)
          (product_some f count (λ j less. some j (omega (arith, less))))
      | inr earlier ↦ mul-le 1 2 (f count) (product f count) (some count (omega arith))
          (product_several f count k (omega (arith, below, earlier))
          (λ j less. some j (omega (arith, less))) several)
    ]

-- two functions that share out a third one at one place, and are the same as it elsewhere
pub product_shared : (f g h : ℕ → ℕ) (count k : ℕ) → k < count
    → ((j : ℕ) → (j ≡ k → ⊥) → f j ≡ h j) → ((j : ℕ) → (j ≡ k → ⊥) → g j ≡ h j)
    → f k + g k ≤ h k → product f count + product g count ≤ product h count
product_shared f g h zero k below first second shared = absurd (omega (arith, below))
product_shared f g h (suc count) k below first second shared =
    elim (cases_eq k count) as (λ _. f count * product f count + g count * product g count
    ≤ h count * product h count) [
      | inl last ↦
          let one : product f count ≡ product h count =
          product_same f h count (λ j less. first j (λ is. omega (arith, less, is, last))) in
          let two : product g count ≡ product h count =
          product_same g h count (λ j less. second j (λ is. omega (arith, less, is, last))) in
          let both : f count + g count ≤ h count = subst (λ j. f j + g j ≤ h j) last shared in
          rw (one, two)
          (subst (λ n. n ≤ h count * product h count) (add-mul (f count) (g count)
          (product h count)) (mul-le-mul_right (product h count) both))
      | inr earlier ↦
          let apart : count ≡ k → ⊥ = λ is. earlier (sym is) in
          let rest : product f count + product g count ≤ product h count =
          product_shared f g h count k (omega (arith, below, earlier)) first second shared in
          rw (first count apart, second count apart)
          (subst (λ n. n ≤ h count * product h count) (mul-add (h count) (product f count)
          (product g count)) (mul-le-mul_left (h count) rest))
    ]
