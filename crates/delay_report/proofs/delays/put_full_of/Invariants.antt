use Rattle.std.proofs.Common.{◌≡◌, ◌++◌}
use Rattle.exact_sums.specs.Lists.{all_below}
use Rattle.flow_types.specs.Scenario.{parts_of}
use Rattle.plan_rules.specs.Loads.{load_at}
use Rattle.delay_report.specs.Delays.{full_at}
use Rattle.delay_report.proofs.delays.put_full_of.Given as goal

-- the lines of the places so far
abbrev pub invariant-loop-place : goal.invariant-loop-place
invariant-loop-place l =
    l.out.items ≡ l.fn.out.items
    ++ all_below l.place (full_at (parts_of l.s) l.moments l.kind (load_at l.loads l.kind))
