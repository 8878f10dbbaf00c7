-- What the items of a list give, one after the other, and what holds of each. Where their numbers
-- don't matter, that is std's `flat_map` and `All`.
use Rattle.std.specs.Prelude.{◌≡◌, ℕ, zero, suc, ◌+◌, ◌<◌, List, [], ◌∷◌, ◌++◌, get_or, length}

-- each by its number, the first of which is k
abbrev pub flat_map_from : {X Y : Type 0} → (ℕ → X → List Y) → ℕ → List X → List Y
flat_map_from part k [] = []
flat_map_from part k (x ∷ xs) = part k x ++ flat_map_from part (k + 1) xs

-- what the numbers below n give
abbrev pub all_below : {X : Type 0} → ℕ → (ℕ → List X) → List X
all_below zero part = []
all_below (suc n) part = all_below n part ++ part n

-- so many items, and of each by its number that it is so; `none` stands where there is no item
pub record AreEach {X : Type 0} (P : ℕ → X → Type 0) (none : X) (count : ℕ) (now : List X)
    : Type 0 where
  pub long : length now ≡ count
  pub each : (k : ℕ) → k < count → P k (get_or now k none)
