-- Products that fit.
use Rattle.std.proofs.Common.{◌≡◌, ◌≤◌, ◌<◌, ◌^◌, ◌*◌, ℤ, ◌*ℤ◌, nat_abs, arith}
use Rattle.std.proofs.lemmas.Int.{unsigned_abs-mul}
use Rattle.std.proofs.lemmas.Nat.{mul-le}
use Rattle.row_arena.specs.Rows.{most_entry}

pub product_near : (a b : ℤ) → nat_abs a ≤ most_entry → nat_abs b ≤ most_entry
    → nat_abs (a *ℤ b) < 2 ^ 125
product_near a b left right =
    let same : nat_abs (a *ℤ b) ≡ nat_abs a * nat_abs b = unsigned_abs-mul a b in
    let le : nat_abs a * nat_abs b ≤ most_entry * most_entry = mul-le _ _ _ _ left right in
    omega (arith, same, le)
