use Rattle.flight_routes.specs.Work.{IsWorkFor}
use Rattle.time_windows.specs.Subproblems.{box_in, parts_in}
use Rattle.priced_plans.proofs.NearFacts.{IsPartSum}
use Rattle.priced_plans.proofs.value.least_sum.Given as goal

abbrev pub invariant-loop-number : goal.invariant-loop-number
invariant-loop-number l =
    IsPartSum (parts_in l.problem) (box_in l.problem) l.weight l.prices l.number l.sum
    × IsWorkFor (parts_in l.problem) l.work
