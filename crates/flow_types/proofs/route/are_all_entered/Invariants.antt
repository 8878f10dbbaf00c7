use Rattle.std.proofs.Common.{ℕ, ◌<◌, IsTrue}
use Rattle.flow_types.specs.Routes.{is_entered}
use Rattle.flow_types.proofs.route.are_all_entered.Given as goal

abbrev pub invariant-loop-k : goal.invariant-loop-k
invariant-loop-k l = (j : ℕ) → 0 < j → j < l.k → IsTrue (is_entered l.legs j)
