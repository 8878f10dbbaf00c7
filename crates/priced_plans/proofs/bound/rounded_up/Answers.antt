use Rattle.std.proofs.Common.{◌≡◌, ◌∙◌, ◌+◌, ◌-◌, ◌/◌, ◌<◌, ◌^◌, true, false, neg_ℤ, ap, arith, pos, subst, sym, unsigned_abs}
use Rattle.std.specs.Prelude.{int_lt}
use Rattle.priced_plans.specs.PricedBound.{IsRoundedUp}
use Rattle.priced_plans.proofs.RoundingFacts.{above_small, below_small, rounded_closer, rounded_near, rounded_negative, rounded_positive, rounded_within, size_small, whole, whole_wide}
use Rattle.priced_plans.proofs.bound.rounded_up.Goals as goal

pub returns-then-value-gt0-clause-rounded : goal.returns-then-value-gt0-clause-rounded
returns-then-value-gt0-clause-rounded c =
    let same = whole c.args.value c.ranges.value in
    let size = c.unsigned_abs.ensures.value ∙ ap unsigned_abs same in
    let near = size_small c.args.value c.requires.near in
    let small = above_small c.unsigned_abs.result c.args.weight (omega (arith, size, near))
    c.ranges.weight.fits in
    let result = whole_wide c.above.result
    (subst (λ z. unsigned_abs z < 2 ^ 127) (sym c.above.ensures) small) in
    subst (IsRoundedUp c.args.value c.args.weight) (sym result)
    (rounded_positive c.args.value c.above.result c.args.weight
    (subst (λ z. int_lt (pos 0) z ≡ true) same c.if-value-gt0.true) c.requires.weight
    (c.above.ensures
    ∙ ap (λ n. pos ((n + (c.args.weight - 1)) / c.args.weight)) size))

pub returns-then-value-gt0-clause-near : goal.returns-then-value-gt0-clause-near
returns-then-value-gt0-clause-near c =
    rounded_within c.args.value _ c.args.weight c.requires.weight c.requires.near
    (returns-then-value-gt0-clause-rounded c)

pub returns-then-value-gt0-clause-smaller : goal.returns-then-value-gt0-clause-smaller
returns-then-value-gt0-clause-smaller c =
    rounded_near c.args.value _ c.args.weight c.requires.weight
    (returns-then-value-gt0-clause-rounded c)

pub returns-then-value-gt0-clause-closer : goal.returns-then-value-gt0-clause-closer
returns-then-value-gt0-clause-closer c =
    rounded_closer c.args.value _ c.args.weight c.requires.near
    (returns-then-value-gt0-clause-rounded c)

pub returns-else-value-gt0-clause-rounded : goal.returns-else-value-gt0-clause-rounded
returns-else-value-gt0-clause-rounded c =
    let same = whole c.args.value c.ranges.value in
    let size = c.unsigned_abs-else-value-gt0.ensures.value ∙ ap unsigned_abs same in
    let near = size_small c.args.value c.requires.near in
    let small = below_small c.unsigned_abs-else-value-gt0.result c.args.weight
    (omega (arith, size, near)) in
    let result = whole_wide c.below.result
    (subst (λ z. unsigned_abs z < 2 ^ 127) (sym c.below.ensures) small) in
    subst (IsRoundedUp c.args.value c.args.weight) (sym result)
    (rounded_negative c.args.value c.below.result c.args.weight
    (subst (λ z. int_lt (pos 0) z ≡ false) same c.if-value-gt0.false) c.requires.weight
    (c.below.ensures ∙ ap (λ n. neg_ℤ (pos (n / c.args.weight))) size))

pub returns-else-value-gt0-clause-closer : goal.returns-else-value-gt0-clause-closer
returns-else-value-gt0-clause-closer c =
    rounded_closer c.args.value _ c.args.weight c.requires.near
    (returns-else-value-gt0-clause-rounded c)
