use Rattle.std.proofs.Common.{◌≡◌}
use Rattle.flow_types.specs.Scenario.{parts_of}
use Rattle.delay_report.specs.Delays.{AreShort, delays_below}
use Rattle.delay_report.proofs.delays.total_delay.Given as goal

-- the delays of the flights so far, which aren't long
abbrev pub invariant-loop-flight : goal.invariant-loop-flight
invariant-loop-flight l =
    record {
      so_far : l.total ≡ delays_below l.flight (parts_of l.s) l.plan;
      short : AreShort l.flight l.total;
    }
