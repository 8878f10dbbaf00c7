use Rattle.std.proofs.Common.{◌∙◌, refl}
use Rattle.delay_report.proofs.MomentFacts.{fits_later}
use Rattle.delay_report.proofs.moments.later.Goals as goal

pub unwrap-requires : goal.unwrap-requires
unwrap-requires c =
    let day = c.args.day.now in
    let from = c.args.beginning in
    let given = c.requires in
    let is = c.from_secs.ensures ∙ (rw (c.from.ensures, c.from-2.ensures) refl) in
    c.checked_add.ensures.succeeds.1
    (fits_later day from c.args.period _ given.day given.beginning given.period is)
