use Rattle.delay_report.proofs.MomentFacts.{AreFirst}
use Rattle.delay_report.proofs.moments.moments_of.Given as goal

abbrev pub invariant-loop-period : goal.invariant-loop-period
invariant-loop-period l = AreFirst l.day l.period l.moments.items
