use Rattle.std.proofs.Common.{arith}
use Rattle.scaled_simplex.proofs.MultipleFacts.{divisor_end, divisor_step}
use Rattle.scaled_simplex.proofs.multiples.common_divisor.Goals as goal

pub loop-y-preserved : goal.loop-y-preserved
loop-y-preserved c g h = c.loop-y.invariant g (divisor_step _ _ g h)

pub returns : goal.returns
returns c = c.loop-y.invariant _ (divisor_end _ _ (omega arith))
