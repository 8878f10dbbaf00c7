use Rattle.std.proofs.Common.{ℕ, ◌+◌, ◌<◌, IsTrue}
use Rattle.flow_types.specs.Routes.{is_left}
use Rattle.flow_types.proofs.route.are_all_left.Given as goal

abbrev pub invariant-loop-k : goal.invariant-loop-k
invariant-loop-k l = (j : ℕ) → j + 1 < l.k → IsTrue (is_left l.legs j)
