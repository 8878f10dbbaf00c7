use Rattle.std.proofs.Common.{subst, sym}
use Rattle.scaled_simplex.specs.Multiples.{IsDivisor, IsLeastWith}
use Rattle.scaled_simplex.proofs.MultipleFacts.{least_with}
use Rattle.scaled_simplex.proofs.multiples.multiple_with.Goals as goal

pub returns : goal.returns
returns c =
    let of = c.args.of in
    let divisor = c.common_divisor.result in
    subst (IsLeastWith c.args.denominator of.top of.bottom) (sym c.product.ensures)
    (least_with c.args.denominator of.top of.bottom divisor c.requires.some of.some
    (subst (λ n. IsDivisor of.bottom n divisor) c.rest_of-rest.ensures c.common_divisor.ensures)
    c.requires.near of.bottom_near)
