use Rattle.std.proofs.Common.{arith}
use Rattle.row_arena.proofs.DivideFacts.{divided_step}
use Rattle.row_arena.proofs.dividing.divide.Goals as goal

pub loop-k-preserved : goal.loop-k-preserved
loop-k-preserved c =
    divided_step c.args.divisor c.args.entries.now c.loop-k.entries c.loop-k.k c.quotient.result _
    (omega arith) (omega arith) c.loop-k.invariant c.quotient.ensures
