-- Names by their positions, through the keys that an index holds.
use Rattle.std.proofs.Common.{◌≡◌, ℕ, suc, ◌+◌, ◌≤◌, Bool, true, false, cond, ltb, List, [], ◌∷◌, length, Some, None, map, refl, arith, position, not, ◌||◌}
use Rattle.std.proofs.lemmas.Bool.{ltb-false}
use Rattle.std.specs.List.{list_any, position_or_len}
use Rattle.std.proofs.lemmas.List.{length-map}

pub position_or_len-map : {X Y : Type 0} (p : Y → Bool) (f : X → Y) (xs : List X)
    → position_or_len p (map f xs) ≡ position_or_len (λ x. p (f x)) xs
position_or_len-map p f [] = refl
position_or_len-map p f (x ∷ xs) = rw (position_or_len-map p f xs) refl

pub position-map : {X Y : Type 0} (p : Y → Bool) (f : X → Y) (xs : List X)
    → position p (map f xs) ≡ position (λ x. p (f x)) xs
position-map p f xs = rw (position_or_len-map p f xs, length-map xs f) refl

-- no position, no element
step_none : (b : Bool) (n len : ℕ) (any : Bool) → (len ≤ n → any ≡ false)
    → suc len ≤ cond (not b) (1 + n) 0 → (b || any) ≡ false
step_none true n len any more h = absurd (omega arith)
step_none false n len any more h = more (omega arith)

none_by_length : {X : Type 0} (p : X → Bool) (xs : List X) → length xs ≤ position_or_len p xs
    → list_any p xs ≡ false
none_by_length p [] h = refl
none_by_length p (x ∷ xs) h =
    step_none (p x) (position_or_len p xs) (length xs) (list_any p xs) (none_by_length p xs) h

pub by_place : (n len : ℕ) → cond (ltb n len) (Some n) None ≡ None → len ≤ n
by_place n len e = by (ltb n len) refl e
  where
    by : (b : Bool) → ltb n len ≡ b → cond b (Some n) None ≡ None → len ≤ n
    by true h e = absurd cc
    by false h e = ltb-false n len h

pub position-none : {X : Type 0} (p : X → Bool) (xs : List X) → position p xs ≡ None
    → list_any p xs ≡ false
position-none p xs e = none_by_length p xs (by_place (position_or_len p xs) (length xs) e)
