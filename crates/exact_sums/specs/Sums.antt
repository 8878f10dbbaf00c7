-- Sums of lists. That of whole numbers is std's `sum_by`, and a range is std's `range_with_len`.
use Rattle.std.specs.Prelude.{List, [], ◌∷◌, Option, None, Some, ℤ, pos, ◌+ℤ◌}

-- a number of each item, added up
abbrev pub total : {A : Type 0} → (A → ℤ) → List A → ℤ
total value [] = pos 0
total value (x ∷ xs) = value x +ℤ total value xs

-- the sum of two numbers, where both are there
abbrev pub plus : Option ℤ → Option ℤ → Option ℤ
plus None more = None
plus (Some sum) None = None
plus (Some sum) (Some more) = Some (sum +ℤ more)
