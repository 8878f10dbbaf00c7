use Rattle.std.proofs.Common.{◌+◌, ◌*◌, ◌^◌}
use Rattle.cut_rows.specs.Relaxations.{parts_under}
use Rattle.dual_sums.specs.Growing.{Grows, choice_under}
use Rattle.dual_sums.proofs.CostGrowFacts.{part_cost}
use Rattle.dual_sums.proofs.costs.add_cost.Given as goal

abbrev pub invariant-loop-flight : goal.invariant-loop-flight
invariant-loop-flight l =
    Grows (choice_under l.relaxation)
    (part_cost (parts_under l.relaxation) l.fn.weight l.flight)
    (2 ^ 104 + l.flight * 2 ^ 103) l.fn.sums l.sums
