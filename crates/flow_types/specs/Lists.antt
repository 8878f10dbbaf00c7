-- Lists.
use Rattle.std.specs.Prelude.{ℕ, zero, suc, ◌+◌, List, set}

-- the list with the item in so many places from one on
abbrev pub filled : {X : Type 0} → ℕ → ℕ → X → List X → List X
filled from zero item xs = xs
filled from (suc count) item xs = set (filled from count item xs) (from + count) item
