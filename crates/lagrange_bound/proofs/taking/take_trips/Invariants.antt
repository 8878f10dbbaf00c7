use Rattle.flight_routes.specs.Work.{IsWorkFor}
use Rattle.plan_rules.specs.Loads.{IsMadeFor}
use Rattle.lagrange_bound.specs.Taking.{IsTakenSum}
use Rattle.time_windows.specs.Subproblems.{box_in, parts_in}
use Rattle.lagrange_bound.proofs.taking.take_trips.Given as goal

abbrev pub invariant-loop-number : goal.invariant-loop-number
invariant-loop-number l =
    IsTakenSum (parts_in l.problem) (box_in l.problem) l.prices l.number l.loads l.sum
    × IsWorkFor (parts_in l.problem) l.work
    × IsMadeFor (parts_in l.problem) l.loads
