use Rattle.std.proofs.Common.{◌+◌, ◌*◌, arith}
use Rattle.presolve.proofs.CountFacts.{past_more}
use Rattle.presolve.proofs.tally.Tally.add.Goals as goal

pub returns-then-is_past-clause-wide : goal.returns-then-is_past-clause-wide
returns-then-is_past-clause-wide c =
    past_more c.args.self.now.cells c.saturating_add-self.result
    (c.args.self.now.entries + c.args.count * c.args.each)
    (omega (arith, c.saturating_add-self.ensures, c.saturating_mul-more.ensures))
    (c.is_past.ensures.0 c.if-is_past.true)
