use Rattle.std.proofs.Common.{◌≡◌, ◌≤◌, ◌^◌, ◌*◌, sum_by}
use Rattle.std.specs.List.{range_with_len}
use Rattle.flow_types.specs.Scenario.{parts_of}
use Rattle.priced_plans.specs.Valuing.{row_price}
use Rattle.priced_plans.proofs.value.capacity_price.Given as goal

abbrev pub invariant-loop-place : goal.invariant-loop-place
invariant-loop-place l =
    (l.sum ≡ sum_by (row_price (parts_of l.s) l.kind l.prices) (range_with_len 0 l.place))
    × (l.sum ≤ l.place * 2 ^ 110)
