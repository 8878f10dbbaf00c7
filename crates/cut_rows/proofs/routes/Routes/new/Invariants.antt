use Rattle.flow_types.specs.Scenario.{parts_of}
use Rattle.cut_rows.specs.Routes.{AreRoutesTo}
use Rattle.cut_rows.proofs.routes.Routes.new.Given as goal

-- those of the flights so far
abbrev pub invariant-loop-flight : goal.invariant-loop-flight
invariant-loop-flight l = AreRoutesTo (parts_of l.s) l.flight l.distances
