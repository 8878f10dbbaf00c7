-- Costs that may be missing, as one number.
use Rattle.std.specs.Prelude.{◌^◌, Option, None, Some, ℤ, pos, neg_ℤ, ◌≤ℤ◌, cond, int_lt}

-- more than any cost
abbrev pub none : ℤ
none = pos (2 ^ 126)

-- the cost that the number stands for, none from there on
abbrev pub cost_in : ℤ → Option ℤ
cost_in value = cond (int_lt value none) (Some value) None

-- no more than that, either way
pub record IsHeld (value : ℤ) : Type 0 where
  pub low : neg_ℤ none ≤ℤ value
  pub high : value ≤ℤ none

-- the number that stands for it
abbrev pub number_of : Option ℤ → ℤ
number_of None = none
number_of (Some value) = value
