-- A list with one of its items changed.
use Rattle.std.proofs.Common.{◌≡◌, ◌≢◌, ℕ, zero, suc, ◌<◌, Bool, List, [], ◌∷◌, length, get_or, map, set, Option, Some, refl, ap, sym, arith, ◌∙◌, All, AllPairs}
use Rattle.std.specs.Prelude.{slice_get}
use Rattle.scenario_reader.specs.Change.{changed_at}

pub length-changed : {X : Type 0} (change : X → X) (xs : List X) (k : ℕ)
    → length (changed_at change xs k) ≡ length xs
length-changed change [] k = refl
length-changed change (x ∷ xs) zero = refl
length-changed change (x ∷ xs) (suc k) = ap suc (length-changed change xs k)

-- what the change leaves as it was
pub map-changed : {X Y : Type 0} (f : X → Y) (change : X → X) → ((x : X) → f (change x) ≡ f x)
    → (xs : List X) (k : ℕ) → map f (changed_at change xs k) ≡ map f xs
map-changed f change same [] k = refl
map-changed f change same (x ∷ xs) zero = ap (λ y. y ∷ map f xs) (same x)
map-changed f change same (x ∷ xs) (suc k) = ap (λ ys. f x ∷ ys) (map-changed f change same xs k)

pub get_changed : {X : Type 0} (test : Option X → Bool) (change : X → X)
    → ((x : X) → test (Some (change x)) ≡ test (Some x)) → (xs : List X) (k i : ℕ)
    → test (slice_get (changed_at change xs k) i) ≡ test (slice_get xs i)
get_changed test change same [] k i = refl
get_changed test change same (x ∷ xs) zero zero = same x
get_changed test change same (x ∷ xs) zero (suc i) = refl
get_changed test change same (x ∷ xs) (suc k) zero = refl
get_changed test change same (x ∷ xs) (suc k) (suc i) = get_changed test change same xs k i

at_changed : {X Y : Type 0} (f : X → Y) (change : X → X) → ((x : X) → f (change x) ≡ f x)
    → (xs : List X) (k i : ℕ) (d : X) → f (get_or (changed_at change xs k) i d) ≡ f (get_or xs i d)
at_changed f change same [] k i d = refl
at_changed f change same (x ∷ xs) zero zero d = same x
at_changed f change same (x ∷ xs) zero (suc i) d = refl
at_changed f change same (x ∷ xs) (suc k) zero d = refl
at_changed f change same (x ∷ xs) (suc k) (suc i) d = at_changed f change same xs k i d

-- what differs among the items still differs
pub pairs_changed : {X Y : Type 0} (f : X → Y) (change : X → X) → ((x : X) → f (change x) ≡ f x)
    → (xs : List X) (k : ℕ)
    → AllPairs (λ a b. f a ≢ f b) xs → AllPairs (λ a b. f a ≢ f b) (changed_at change xs k)
pairs_changed f change same xs k apart i j d before within e =
    apart i j d before (rw (length-changed change xs k) at within)
    (sym (at_changed f change same xs k i d) ∙ e ∙ at_changed f change same xs k j d)

pub All-changed : {X : Type 0} (P : X → Type 0) (change : X → X) (xs : List X) (k : ℕ) → All P xs
    → ((x : X) → slice_get xs k ≡ Some x → P x → P (change x)) → All P (changed_at change xs k)
All-changed P change [] k all one i d h = absurd (omega arith)
All-changed P change (x ∷ xs) zero all one zero d h = one x refl (all 0 d (omega arith))
All-changed P change (x ∷ xs) zero all one (suc i) d h = all (suc i) d h
All-changed P change (x ∷ xs) (suc k) all one zero d h = all 0 d (omega arith)
All-changed P change (x ∷ xs) (suc k) all one (suc i) d h =
    All-changed P change xs k (λ j e within. all (suc j) e (omega arith)) one i d (omega arith)

-- an item is put where the item was that the change makes it of
pub set-changed : {X : Type 0} (change : X → X) (xs : List X) (k : ℕ) (x new : X) → k < length xs
    → x ≡ get_or xs k x → new ≡ change x
    → set xs k new ≡ changed_at change xs k
set-changed change [] k x new within here is = absurd (omega arith)
set-changed change (first ∷ xs) zero x new within here is = rw (is, here) refl
set-changed change (first ∷ xs) (suc k) x new within here is =
    ap (λ rest. first ∷ rest) (set-changed change xs k x new (omega arith) here is)
