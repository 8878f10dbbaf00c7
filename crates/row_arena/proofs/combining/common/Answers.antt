use Rattle.std.proofs.Common.{ap, nat_abs, subst, ◌∙◌}
use Rattle.std.specs.Int.{IsGcd}
use Rattle.row_arena.proofs.PlaceFacts.{whole_near}
use Rattle.row_arena.proofs.combining.common.Goals as goal

pub returns : goal.returns
returns c =
    let by = c.args.by in
    let common = c.gcd_narrow.result in
    subst (λ n. IsGcd n (nat_abs by.pivot) common)
    (c.unsigned_abs.ensures.value ∙ ap nat_abs (whole_near by.target c.requires.target))
    (subst (λ n. IsGcd c.unsigned_abs.result n common)
    (c.unsigned_abs-2.ensures.value ∙ ap nat_abs (whole_near by.pivot c.requires.pivot))
    c.gcd_narrow.ensures)
