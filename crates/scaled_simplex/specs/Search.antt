-- The best of the positions that pass a test.
use Rattle.std.specs.Prelude.{ℕ, zero, suc, Bool, ◌&&◌, Option, None, Some, if◌then◌else◌}

abbrev pub better : (ℕ → Bool) → (ℕ → ℕ → Bool) → ℕ → Option ℕ → Option ℕ
better passes less k None = if passes k then Some k else None
better passes less k (Some best) = if passes k && less k best then Some k else Some best

-- the first of the best below a number, nothing where none passes
abbrev pub first_best : (ℕ → Bool) → (ℕ → ℕ → Bool) → ℕ → Option ℕ
first_best passes less zero = None
first_best passes less (suc n) = better passes less n (first_best passes less n)
