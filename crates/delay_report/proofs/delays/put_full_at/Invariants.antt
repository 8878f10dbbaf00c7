use Rattle.std.proofs.Common.{◌≡◌, ◌++◌}
use Rattle.exact_sums.specs.Lists.{all_below}
use Rattle.flow_types.specs.Scenario.{parts_of}
use Rattle.plan_rules.specs.Loads.{load_at}
use Rattle.delay_report.specs.Delays.{full_text}
use Rattle.delay_report.proofs.delays.put_full_at.Given as goal

-- the lines of the periods so far
abbrev pub invariant-loop-period : goal.invariant-loop-period
invariant-loop-period l =
    l.out.items ≡ l.fn.out.items
    ++ all_below l.period (full_text (parts_of l.s) l.moments l.of.kind
    (load_at l.loads l.of.kind) l.of.place)
