use Rattle.std.proofs.Common.{◌<◌, ◌≤◌, ◌^◌, IfSome, None, Option, Some, ℕ, length, arith}
use Rattle.std.proofs.Math.Nat.{pow-le-pow_right}
use Rattle.certificate.proofs.numbers.natural_of.Goals as goal

-- a number of so many digits is below 10^38
few_digits : (found : Option ℕ) (digits : ℕ) → digits ≤ 38 → IfSome found (λ n. n < 10 ^ digits)
    → IfSome found (λ n. n < 10 ^ 38)
few_digits None digits few small = tt
few_digits (Some n) digits few small =
    let most : 10 ^ digits ≤ 10 ^ 38 = pow-le-pow_right (omega arith) few in
    omega (arith, small, most)

pub returns-clause-small : goal.returns-clause-small
returns-clause-small c =
    few_digits c.spelled_number.result (length c.args.bytes.now)
    (omega (arith, c.if-bytes-gt-MOST_DIGITS.false)) c.spelled_number.ensures.small
