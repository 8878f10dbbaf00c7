use Rattle.flight_routes.specs.Work.{IsWorkFor}
use Rattle.time_windows.specs.Subproblems.{box_in, parts_in}
use Rattle.greedy_plan.proofs.BoundFacts.{IsPartSum}
use Rattle.greedy_plan.proofs.bound.bound_of.Given as goal

abbrev pub invariant-loop-number : goal.invariant-loop-number
invariant-loop-number l =
    IsPartSum (parts_in l.problem) (box_in l.problem) l.number l.sum
    × IsWorkFor (parts_in l.problem) l.work
