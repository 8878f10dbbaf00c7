-- Numbers that aren't far from 0.
use Rattle.std.proofs.Common.{ℕ, ◌≤◌, Option, None, Some, IfSome, ℤ, arith}
use Rattle.std.proofs.lemmas.Int.{ints}
use Rattle.exact_sums.specs.Near.{IsNear}

-- what is near is no further than more
pub near_wider : (few more : ℕ) (value : Option ℤ) → few ≤ more → IfSome value (IsNear few)
    → IfSome value (IsNear more)
near_wider few more None le near = tt
near_wider few more (Some value) le near = record {
  low = let low = near.low in omega (arith, ints, low, le);
  high = let high = near.high in omega (arith, ints, high, le);
}
