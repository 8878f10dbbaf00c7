use Rattle.std.proofs.Common.{◌≡◌, ◌≤◌, ◌^◌, ◌*◌, sum_by}
use Rattle.std.specs.List.{range_with_len}
use Rattle.flow_types.specs.Scenario.{parts_of}
use Rattle.priced_plans.specs.Valuing.{cell_price}
use Rattle.priced_plans.proofs.value.row_price.Given as goal

abbrev pub invariant-loop-period : goal.invariant-loop-period
invariant-loop-period l =
    (l.sum ≡ sum_by (cell_price (parts_of l.s) l.kind l.prices l.place) (range_with_len 0 l.period))
    × (l.sum ≤ l.period * 2 ^ 94)
