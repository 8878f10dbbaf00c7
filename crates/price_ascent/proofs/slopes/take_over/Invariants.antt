use Rattle.flow_types.specs.Scenario.{parts_of}
use Rattle.price_ascent.specs.Slopes.{IsGood}
use Rattle.price_ascent.proofs.slopes.take_over.Given as goal

abbrev pub invariant-loop-slope : goal.invariant-loop-slope
invariant-loop-slope l = IsGood (parts_of l.s) l.prices
