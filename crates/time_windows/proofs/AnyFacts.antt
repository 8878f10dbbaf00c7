-- An item of a list with a property.
use Rattle.std.proofs.Common.{◌≡◌, ◌⊎◌, ℕ, zero, suc, ◌<◌, Bool, true, false, cond, List, [], ◌∷◌, length, get_or, inl, inr, refl, sym, subst, arith}
use Rattle.std.specs.List.{Any, Contains, filter}

pub any_map : {X : Type 0} (P Q : X → Type 0) (xs : List X)
    → ((x : X) → Contains xs x → P x → Q x) → Any P xs → Any Q xs
any_map P Q xs f any = (any.0, any.1, any.2, any.3, f any.1 (any.0, any.2, any.3) any.4)

pub any_none : {X : Type 0} (P : X → Type 0) → Any P [] → ⊥
any_none P any = omega (arith, any.2)

pub any_here : {X : Type 0} (P : X → Type 0) (x : X) (xs : List X) → P x → Any P (x ∷ xs)
any_here P x xs p = (0, x, omega arith, refl, p)

pub any_there : {X : Type 0} (P : X → Type 0) (x : X) (xs : List X) → Any P xs → Any P (x ∷ xs)
any_there P x xs any = (suc any.0, any.1, omega (arith, any.2), any.3, any.4)

at_cases : {X : Type 0} (P : X → Type 0) (x : X) (xs : List X) (k : ℕ) (y : X)
    → k < length (x ∷ xs) → get_or (x ∷ xs) k y ≡ y → P y → P x ⊎ Any P xs
at_cases P x xs zero y within is p = inl (subst P (sym is) p)
at_cases P x xs (suc k) y within is p = inr (k, y, omega arith, is, p)

pub any_cases : {X : Type 0} (P : X → Type 0) (x : X) (xs : List X) → Any P (x ∷ xs)
    → P x ⊎ Any P xs
any_cases P x xs any = at_cases P x xs any.0 any.1 any.2 any.3 any.4

kept_by : {X : Type 0} (p : X → Bool) (P : X → Type 0) (x : X) (xs ys : List X) (b : Bool)
    → p x ≡ b → (Any P ys → Any (λ y. (p y ≡ true) × P y) xs)
    → Any P (cond b (x ∷ ys) ys) → Any (λ y. (p y ≡ true) × P y) (x ∷ xs)
kept_by p P x xs ys false is rest any = any_there (λ y. (p y ≡ true) × P y) x xs (rest any)
kept_by p P x xs ys true is rest any =
    elim (any_cases P x ys any) as (λ _. Any (λ y. (p y ≡ true) × P y) (x ∷ xs)) [
      | inl h ↦ any_here (λ y. (p y ≡ true) × P y) x xs (is, h)
      | inr t ↦ any_there (λ y. (p y ≡ true) × P y) x xs (rest t)
    ]

-- one that a filter keeps passes its test
pub any_kept : {X : Type 0} (p : X → Bool) (P : X → Type 0) (xs : List X) → Any P (filter p xs)
    → Any (λ x. (p x ≡ true) × P x) xs
any_kept p P [] any = absurd (any_none P any)
any_kept p P (x ∷ xs) any = kept_by p P x xs (filter p xs) (p x) refl (any_kept p P xs) any

keeps_by : {X : Type 0} (p : X → Bool) (P : X → Type 0) (x : X) (ys : List X) (b : Bool)
    → p x ≡ b → ((p x ≡ true) × P x) ⊎ Any P ys → Any P (cond b (x ∷ ys) ys)
keeps_by p P x ys false is (inl h) = absurd (cc (is, h.0))
keeps_by p P x ys false is (inr t) = t
keeps_by p P x ys true is (inl h) = any_here P x ys h.1
keeps_by p P x ys true is (inr t) = any_there P x ys t

-- and the other way round
pub any_keeps : {X : Type 0} (p : X → Bool) (P : X → Type 0) (xs : List X)
    → Any (λ x. (p x ≡ true) × P x) xs → Any P (filter p xs)
any_keeps p P [] any = absurd (any_none (λ x. (p x ≡ true) × P x) any)
any_keeps p P (x ∷ xs) any =
    elim (any_cases (λ y. (p y ≡ true) × P y) x xs any)
    as (λ _. Any P (cond (p x) (x ∷ filter p xs) (filter p xs))) [
      | inl h ↦ keeps_by p P x (filter p xs) (p x) refl (inl h)
      | inr t ↦ keeps_by p P x (filter p xs) (p x) refl (inr (any_keeps p P xs t))
    ]
