use Rattle.time_windows.specs.Subproblems.{parts_in}
use Rattle.price_ascent.specs.Slopes.{IsGood}
use Rattle.price_ascent.proofs.leaning.raise_full.Given as goal

abbrev pub invariant-loop-at : goal.invariant-loop-at
invariant-loop-at l = IsGood (parts_in l.land.problem) l.prices
