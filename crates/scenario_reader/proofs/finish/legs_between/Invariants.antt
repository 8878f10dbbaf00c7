use Rattle.std.proofs.Common.{◌≡◌, map, take}
use Rattle.scenario_reader.specs.Finish.{leg_between}
use Rattle.scenario_reader.proofs.finish.legs_between.Given as goal

abbrev pub invariant-loop-leg : goal.invariant-loop-leg
invariant-loop-leg l = l.found ≡ map (leg_between l.nodes) (take l.leg-index l.legs)
