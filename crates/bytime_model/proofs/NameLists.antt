-- Lists by parts: what holds of each item, of each two, and of one.
use Rattle.std.proofs.Common.{◌≡◌, ℕ, zero, suc, ◌+◌, ◌<◌, ◌≤◌, Bool, true, false, List, [], ◌∷◌, ◌++◌, map, if◌then◌else◌, All, AllPairs, inl, inr, refl, subst, arith, ◌⊎◌}
use Rattle.std.proofs.lemmas.List.Elements.{All-cons, All-nil}
use Rattle.std.proofs.lemmas.List.Kept.{AllPairs-cons}
use Rattle.std.specs.List.{Any, flat_map, range_with_len}
use Rattle.exact_sums.proofs.ShortLists.{no_pairs}
use Rattle.time_windows.proofs.AnyFacts.{any_cases, any_here, any_none, any_there}

-- a number, or one past it
first_or : (from k : ℕ) → from ≤ k → (k ≡ from) ⊎ (from + 1 ≤ k)
first_or zero zero past = inl refl
first_or zero (suc k) past = inr (omega arith)
first_or (suc from) zero past = absurd (omega (arith, past))
first_or (suc from) (suc k) past =
    elim (first_or from k (omega (arith, past))) as (λ _.
    (suc k ≡ suc from) ⊎ (suc from + 1 ≤ suc k)) [
      | inl same ↦ inl (omega (arith, same))
      | inr more ↦ inr (omega (arith, more))
    ]

module _ {X : Type 0} where
  -- what holds of each
  abbrev pub Each : (X → Type 0) → List X → Type 0
  Each P [] = Unit {0}
  Each P (x ∷ xs) = P x × Each P xs

  pub each_append : (P : X → Type 0) (xs ys : List X) → Each P xs → Each P ys → Each P (xs ++ ys)
  each_append P [] ys first second = second
  each_append P (x ∷ xs) ys first second = (first.0, each_append P xs ys first.1 second)

  pub each_weaker : (P Q : X → Type 0) (xs : List X) → ((x : X) → P x → Q x) → Each P xs → Each Q xs
  each_weaker P Q [] weaker each = tt
  each_weaker P Q (x ∷ xs) weaker each =
      (weaker x each.0, each_weaker P Q xs weaker each.1)

  pub each_if : (P : X → Type 0) (b : Bool) (xs : List X) → (b ≡ true → Each P xs)
      → Each P (if b then xs else [])
  each_if P true xs each = each refl
  each_if P false xs each = tt

  pub each_map : (P : X → Type 0) (name : ℕ → X) (from count : ℕ)
      → ((k : ℕ) → from ≤ k → k < from + count → P (name k))
      → Each P (map name (range_with_len from count))
  each_map P name from zero each = tt
  each_map P name from (suc count) each = (
    each from (omega arith) (omega arith),
    each_map P name (from + 1) count
        (λ k past before. each k (omega (arith, past)) (omega (arith, before))),
  )

  pub each_flat : (P : X → Type 0) (part : ℕ → List X) (from count : ℕ)
      → ((k : ℕ) → from ≤ k → k < from + count → Each P (part k))
      → Each P (flat_map part (range_with_len from count))
  each_flat P part from zero each = tt
  each_flat P part from (suc count) each =
      each_append P (part from) (flat_map part (range_with_len (from + 1) count))
      (each from (omega arith) (omega arith))
      (each_flat P part (from + 1) count
      (λ k past before. each k (omega (arith, past)) (omega (arith, before))))

  pub each_all : (P : X → Type 0) (xs : List X) → Each P xs → All P xs
  each_all P [] each = All-nil P
  each_all P (x ∷ xs) each = All-cons P x xs each.0 (each_all P xs each.1)

  pub each_any : (P : X → Type 0) (x : X) (xs : List X) → Each P xs → Any (λ y. y ≡ x) xs → P x
  each_any P x [] each any = absurd (any_none (λ y. y ≡ x) any)
  each_any P x (y ∷ xs) each any =
      elim (any_cases (λ z. z ≡ x) y xs any) as (λ _. P x) [
        | inl here ↦ subst P here each.0
        | inr there ↦ each_any P x xs each.1 there
      ]

  -- of each two
  abbrev pub Ascending : (X → X → Type 0) → List X → Type 0
  Ascending R [] = Unit {0}
  Ascending R (x ∷ xs) = Each (R x) xs × Ascending R xs

  pub ascending_pairs : (R : X → X → Type 0) (xs : List X) → Ascending R xs → AllPairs R xs
  ascending_pairs R [] asc = no_pairs R
  ascending_pairs R (x ∷ xs) asc =
      AllPairs-cons R x xs (each_all (R x) xs asc.0) (ascending_pairs R xs asc.1)

  pub ascending_append : (R : X → X → Type 0) (P Q : X → Type 0) (xs ys : List X)
      → ((x y : X) → P x → Q y → R x y) → Each P xs → Each Q ys → Ascending R xs → Ascending R ys
      → Ascending R (xs ++ ys)
  ascending_append R P Q [] ys less first second one two = two
  ascending_append R P Q (x ∷ xs) ys less first second one two = (
    each_append (R x) xs ys one.0 (each_weaker Q (R x) ys (λ y q. less x y first.0 q) second),
    ascending_append R P Q xs ys less first.1 second one.1 two,
  )

  pub ascending_if : (R : X → X → Type 0) (b : Bool) (xs : List X) → Ascending R xs
      → Ascending R (if b then xs else [])
  ascending_if R true xs asc = asc
  ascending_if R false xs asc = tt

  pub ascending_map : (R : X → X → Type 0) (name : ℕ → X) (from count : ℕ)
      → ((k m : ℕ) → from ≤ k → k < m → m < from + count → R (name k) (name m))
      → Ascending R (map name (range_with_len from count))
  ascending_map R name from zero less = tt
  ascending_map R name from (suc count) less = (
    each_map (R (name from)) name (from + 1) count (λ m past before.
        less from m (omega arith) (omega (arith, past)) (omega (arith, before))),
    ascending_map R name (from + 1) count (λ k m past onward before.
        less k m (omega (arith, past)) onward (omega (arith, before))),
  )

  -- parts of which each is of its number
  pub record IsPast (P : ℕ → X → Type 0) (from : ℕ) (x : X) : Type 0 where
    pub number : ℕ
    pub past : from ≤ number
    pub is : P number x

  pub ascending_flat : (R : X → X → Type 0) (P : ℕ → X → Type 0) (part : ℕ → List X)
      (from count : ℕ) → ((k m : ℕ) (x y : X) → k < m → P k x → P m y → R x y)
      → ((k : ℕ) → Each (P k) (part k)) → ((k : ℕ) → Ascending R (part k))
      → Ascending R (flat_map part (range_with_len from count))
  ascending_flat R P part from zero less of asc = tt
  ascending_flat R P part from (suc count) less of asc =
      ascending_append R (P from) (IsPast P (from + 1)) (part from)
      (flat_map part (range_with_len (from + 1) count))
      (λ x y here later. let past = later.past in
      less from later.number x y (omega (arith, past)) here later.is)
      (of from)
      (each_flat (IsPast P (from + 1)) part (from + 1) count
      (λ k past before. each_weaker (P k) (IsPast P (from + 1)) (part k)
      (λ x is. record { number = k; past = past; is = is }) (of k)))
      (asc from) (ascending_flat R P part (from + 1) count less of asc)

  -- of one
  pub any_first : (P : X → Type 0) (xs ys : List X) → Any P xs → Any P (xs ++ ys)
  any_first P [] ys any = absurd (any_none P any)
  any_first P (x ∷ xs) ys any =
      elim (any_cases P x xs any) as (λ _. Any P (x ∷ (xs ++ ys))) [
        | inl here ↦ any_here P x (xs ++ ys) here
        | inr there ↦ any_there P x (xs ++ ys) (any_first P xs ys there)
      ]

  pub any_second : (P : X → Type 0) (xs ys : List X) → Any P ys → Any P (xs ++ ys)
  any_second P [] ys any = any
  any_second P (x ∷ xs) ys any = any_there P x (xs ++ ys) (any_second P xs ys any)

  pub any_if : (P : X → Type 0) (b : Bool) (xs : List X) → b ≡ true → Any P xs
      → Any P (if b then xs else [])
  any_if P true xs is any = any
  any_if P false xs is any = absurd cc

  pub any_map : (P : X → Type 0) (name : ℕ → X) (from count k : ℕ) → from ≤ k → k < from + count
      → P (name k) → Any P (map name (range_with_len from count))
  any_map P name from zero k past before is = absurd (omega (arith, past, before))
  any_map P name from (suc count) k past before is =
      elim (first_or from k past)
      as (λ _. Any P (name from ∷ map name (range_with_len (from + 1) count))) [
        | inl same ↦ any_here P (name from) (map name (range_with_len (from + 1) count))
            (subst (λ n. P (name n)) same is)
        | inr more ↦ any_there P (name from) (map name (range_with_len (from + 1) count))
            (any_map P name (from + 1) count k more (omega (arith, before)) is)
      ]

  pub any_flat : (P : X → Type 0) (part : ℕ → List X) (from count k : ℕ) → from ≤ k
      → k < from + count → Any P (part k) → Any P (flat_map part (range_with_len from count))
  any_flat P part from zero k past before is = absurd (omega (arith, past, before))
  any_flat P part from (suc count) k past before is =
      elim (first_or from k past)
      as (λ _. Any P (part from ++ flat_map part (range_with_len (from + 1) count))) [
        | inl same ↦ any_first P (part from) (flat_map part (range_with_len (from + 1) count))
            (subst (λ n. Any P (part n)) same is)
        | inr more ↦ any_second P (part from) (flat_map part (range_with_len (from + 1) count))
            (any_flat P part (from + 1) count k more (omega (arith, before)) is)
      ]
