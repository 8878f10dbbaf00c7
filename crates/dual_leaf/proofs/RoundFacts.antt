-- A value that is near to 0 may be rounded up.
use Rattle.std.proofs.Common.{◌<◌, ◌^◌, ℤ, pos, negsuc, unsigned_abs, arith}
use Rattle.std.proofs.lemmas.Int.{ints}
use Rattle.exact_sums.specs.Near.{IsNear}

pub within_near : (value : ℤ) → unsigned_abs value < 2 ^ 115 → IsNear (2 ^ 123) value
within_near (pos n) small = record { low = omega (arith, ints); high = omega (arith, ints, small) }
within_near (negsuc n) small = record {
  low = omega (arith, ints, small);
  high = omega (arith, ints);
}
