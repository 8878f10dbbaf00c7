use Rattle.std.proofs.Common.{◌==◌, ◌&&◌, ◌≤◌, nat_le, nat_lt, max}
use Rattle.flow_types.specs.Counts.{one_if}
use Rattle.plan_rules.specs.Grid.{Changes}
use Rattle.plan_rules.proofs.grid.Grid.change_stay.Given as goal

abbrev pub invariant-loop-period : goal.invariant-loop-period
invariant-loop-period l =
    record {
      so_far : Changes l.change (λ k t. one_if ((l.place == k) && nat_le l.from t && nat_lt t
          l.period))
          l.fn.self l.self;
      upto : l.period ≤ max l.from l.period-end;
    }
