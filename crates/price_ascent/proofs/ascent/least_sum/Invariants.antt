use Rattle.flight_routes.specs.Work.{IsWorkFor}
use Rattle.plan_rules.specs.Loads.{IsMadeFor}
use Rattle.time_windows.specs.Subproblems.{parts_in}
use Rattle.price_ascent.proofs.ascent.least_sum.Given as goal

abbrev pub invariant-loop-number : goal.invariant-loop-number
invariant-loop-number l = record {
  work : IsWorkFor (parts_in l.problem) l.work;
  loads : IsMadeFor (parts_in l.problem) l.loads;
}
