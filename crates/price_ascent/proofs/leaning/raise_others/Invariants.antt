use Rattle.time_windows.specs.Subproblems.{parts_in}
use Rattle.flight_routes.specs.Work.{IsWorkFor}
use Rattle.price_ascent.specs.Slopes.{IsGood}
use Rattle.price_ascent.proofs.leaning.raise_others.Given as goal

abbrev pub invariant-loop : goal.invariant-loop
invariant-loop l = record {
  work : IsWorkFor (parts_in l.land.problem) l.work;
  prices : IsGood (parts_in l.land.problem) l.prices;
}
