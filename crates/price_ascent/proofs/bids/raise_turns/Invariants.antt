use Rattle.time_windows.specs.Subproblems.{parts_in}
use Rattle.price_ascent.specs.Slopes.{IsGood}
use Rattle.price_ascent.proofs.bids.raise_turns.Given as goal

abbrev pub invariant-loop-turn : goal.invariant-loop-turn
invariant-loop-turn l = IsGood (parts_in l.land.problem) l.prices

abbrev pub invariant-loop-turn-2 : goal.invariant-loop-turn-2
invariant-loop-turn-2 l = IsGood (parts_in l.land.problem) l.prices
