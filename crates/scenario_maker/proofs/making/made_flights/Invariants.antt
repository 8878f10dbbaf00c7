use Rattle.std.proofs.Common.{◌≡◌}
use Rattle.scenario_maker.specs.Made.{made_flights}
use Rattle.scenario_maker.proofs.making.made_flights.Given as goal

-- the flights so far
abbrev pub invariant-loop-i : goal.invariant-loop-i
invariant-loop-i l = l.flights ≡ made_flights l.i
