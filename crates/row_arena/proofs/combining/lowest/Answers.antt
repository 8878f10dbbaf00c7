use Rattle.std.proofs.Common.{ap, int_div, nat_abs, pos, ◌∙◌}
use Rattle.row_arena.proofs.PlaceFacts.{whole_near}
use Rattle.row_arena.proofs.ScaledFacts.{scaled_by, some_common}
use Rattle.row_arena.proofs.combining.lowest.Goals as goal

pub share_of-target-requires-clause-some : goal.share_of-target-requires-clause-some
share_of-target-requires-clause-some c =
    some_common c.args.by.target (nat_abs c.args.by.pivot) c.common-divisor.result
    c.requires.above c.common-divisor.ensures

pub share_of-pivot-requires-clause-some : goal.share_of-pivot-requires-clause-some
share_of-pivot-requires-clause-some c =
    some_common c.args.by.target (nat_abs c.args.by.pivot) c.common-divisor.result
    c.requires.above c.common-divisor.ensures

pub returns-clause-scaled : goal.returns-clause-scaled
returns-clause-scaled c =
    let by = c.args.by in
    let divisor = c.common-divisor.result in
    scaled_by by _ divisor c.requires.above c.common-divisor.ensures
    (whole_near c.share_of-target.result c.share_of-target.ensures.near
    ∙ c.share_of-target.ensures.quotient
    ∙ ap (λ z. int_div z (pos divisor)) (whole_near by.target c.requires.near.target))
    (whole_near c.share_of-pivot.result c.share_of-pivot.ensures.near
    ∙ c.share_of-pivot.ensures.quotient
    ∙ ap (λ z. int_div z (pos divisor)) (whole_near by.pivot c.requires.near.pivot))
