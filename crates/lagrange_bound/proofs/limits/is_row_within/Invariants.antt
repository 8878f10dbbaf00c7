use Rattle.std.proofs.Common.{ℕ, ◌<◌}
use Rattle.flow_types.specs.Scenario.{parts_of}
use Rattle.priced_plans.specs.Usage.{traffic_in}
use Rattle.lagrange_bound.specs.Limits.{IsWithin}
use Rattle.lagrange_bound.proofs.limits.is_row_within.Given as goal

abbrev pub invariant-loop-period : goal.invariant-loop-period
invariant-loop-period l =
    (period : ℕ) → period < l.period
    → IsWithin (parts_of l.s) (traffic_in l.loads) l.kind l.row period
