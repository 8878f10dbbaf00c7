-- Numbers that aren't far from 0.
use Rattle.std.specs.Prelude.{ℕ, ℤ, pos, neg_ℤ, ◌≤ℤ◌}

-- no further from 0 than this
pub record IsNear (most : ℕ) (value : ℤ) : Type 0 where
  pub low : neg_ℤ (pos most) ≤ℤ value
  pub high : value ≤ℤ pos most
