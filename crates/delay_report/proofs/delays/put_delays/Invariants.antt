use Rattle.std.proofs.Common.{◌≡◌, ◌++◌}
use Rattle.exact_sums.specs.Lists.{all_below}
use Rattle.flow_types.specs.Scenario.{parts_of}
use Rattle.delay_report.specs.Delays.{delay_text}
use Rattle.delay_report.proofs.delays.put_delays.Given as goal

-- the lines of the flights so far
abbrev pub invariant-loop-flight : goal.invariant-loop-flight
invariant-loop-flight l =
    l.out.items ≡ l.fn.out.items
    ++ all_below l.flight (delay_text (parts_of l.s) l.moments l.plan)
