use Rattle.std.proofs.Common.{◌≡◌}
use Rattle.scenario_maker.specs.Made.{made_connections}
use Rattle.scenario_maker.proofs.making.made_connections.Given as goal

-- the connections so far
abbrev pub invariant-loop-i : goal.invariant-loop-i
invariant-loop-i l = l.connections ≡ made_connections l.i
