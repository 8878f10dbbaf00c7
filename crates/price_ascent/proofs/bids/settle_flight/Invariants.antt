use Rattle.price_ascent.specs.Slopes.{AreSlopesFor, IsGood}
use Rattle.time_windows.specs.Subproblems.{parts_in}
use Rattle.price_ascent.proofs.bids.settle_flight.Given as goal

abbrev pub invariant-loop-at : goal.invariant-loop-at
invariant-loop-at l = record {
  slopes : AreSlopesFor (parts_in l.problem) l.slopes;
  prices : IsGood (parts_in l.problem) l.prices;
}
