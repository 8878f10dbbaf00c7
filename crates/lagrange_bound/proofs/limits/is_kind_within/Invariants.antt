use Rattle.std.proofs.Common.{ℕ, ◌<◌}
use Rattle.flow_types.specs.Scenario.{parts_of}
use Rattle.priced_plans.specs.Usage.{traffic_in}
use Rattle.lagrange_bound.specs.Limits.{IsRowWithin}
use Rattle.lagrange_bound.proofs.limits.is_kind_within.Given as goal

abbrev pub invariant-loop-row : goal.invariant-loop-row
invariant-loop-row l =
    (row : ℕ) → row < l.row → IsRowWithin (parts_of l.s) (traffic_in l.loads) l.kind row
