use Rattle.time_windows.specs.Subproblems.{parts_in}
use Rattle.flight_routes.specs.Work.{IsWorkFor}
use Rattle.plan_rules.specs.Loads.{IsMadeFor as AreLoadsFor}
use Rattle.price_ascent.specs.Slopes.{IsGood}
use Rattle.price_ascent.proofs.leaning.lean.Given as goal

abbrev pub invariant-loop-turn : goal.invariant-loop-turn
invariant-loop-turn l = record {
  work : IsWorkFor (parts_in l.land.problem) l.work;
  loads : AreLoadsFor (parts_in l.land.problem) l.loads;
  prices : IsGood (parts_in l.land.problem) l.prices;
}
