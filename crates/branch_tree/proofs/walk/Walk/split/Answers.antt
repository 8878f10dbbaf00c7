use Rattle.std.proofs.Common.{arith}
use Rattle.branch_tree.proofs.PathFacts.{few_waiting}
use Rattle.branch_tree.proofs.walk.Walk.split.Goals as goal

pub overflow_add-self : goal.overflow_add-self
overflow_add-self c =
    omega (arith, few_waiting c.self.inside.steps.items, c.self.invariant, c.in_ok-push.ensures.len)
