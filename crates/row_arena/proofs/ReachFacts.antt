-- How far from 0 a number may be for its product with another not to be too far.
use Rattle.std.proofs.Common.{◌≡◌, ℕ, ◌*◌, ◌/◌, ◌≤◌, ◌^◌, ◌-◌, ℤ, ◌*ℤ◌, pos, nat_abs, arith}
use Rattle.std.proofs.Math.Nat.{mul-div-le}
use Rattle.std.proofs.lemmas.Int.{unsigned_abs-mul}
use Rattle.std.proofs.lemmas.Nat.{mul-le}
use Rattle.row_arena.specs.Rows.{most_entry}

pub reach_one : (size : ℕ) → size ≤ 1 → size * most_entry ≤ most_entry
reach_one size one = omega (arith, one)

pub reach_small : (size : ℕ) → size ≤ 2 ^ 31 - 1 → size * (2 ^ 31 - 1) ≤ most_entry
reach_small size small =
    omega (arith, small)

pub reach_share : (size : ℕ) → size * nat_abs (pos (most_entry / size)) ≤ most_entry
reach_share size = mul-div-le most_entry size

pub ruleset reaches = (reach_one, reach_small, reach_share)

-- the product with a number that is within it
pub within_reach : (factor number reach : ℤ) → nat_abs factor * nat_abs reach ≤ most_entry
    → nat_abs number ≤ nat_abs reach → nat_abs factor * nat_abs number ≤ most_entry
within_reach factor number reach near within =
    let most : nat_abs factor * nat_abs number ≤ nat_abs factor * nat_abs reach =
    mul-le _ _ _ _ (omega arith) within in
    omega (arith, most, near)

pub product_near : (factor number : ℤ) → nat_abs factor * nat_abs number ≤ most_entry
    → nat_abs (factor *ℤ number) ≤ most_entry
product_near factor number near =
    let same : nat_abs (factor *ℤ number) ≡ nat_abs factor * nat_abs number =
    unsigned_abs-mul factor number in
    omega (arith, same, near)
