use Rattle.flight_routes.specs.Work.{IsWorkFor}
use Rattle.price_ascent.specs.Slopes.{AreSlopesFor, IsGood}
use Rattle.time_windows.specs.Subproblems.{parts_in}
use Rattle.price_ascent.proofs.bids.pass.Given as goal

abbrev pub invariant-loop-turn : goal.invariant-loop-turn
invariant-loop-turn l = record {
  work : IsWorkFor (parts_in l.problem) l.work;
  slopes : AreSlopesFor (parts_in l.problem) l.slopes;
  prices : IsGood (parts_in l.problem) l.prices;
}

abbrev pub invariant-loop-at : goal.invariant-loop-at
invariant-loop-at l = AreSlopesFor (parts_in l.problem) l.slopes
