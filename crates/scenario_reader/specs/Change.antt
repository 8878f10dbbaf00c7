-- A list with one of its items changed.
use Rattle.std.specs.Prelude.{ℕ, zero, suc, List, [], ◌∷◌}

-- the item at this position changed
abbrev pub changed_at : {X : Type 0} → (X → X) → List X → ℕ → List X
changed_at change [] k = []
changed_at change (x ∷ xs) zero = change x ∷ xs
changed_at change (x ∷ xs) (suc k) = x ∷ changed_at change xs k
