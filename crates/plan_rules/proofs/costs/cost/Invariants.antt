use Rattle.std.proofs.Common.{◌≡◌, ◌*◌, drop, pos, neg_ℤ, ◌+ℤ◌, ◌≤ℤ◌}
use Rattle.flow_types.specs.Costs.{plan_cost}
use Rattle.flow_types.specs.Scenario.{parts_of}
use Rattle.plan_rules.proofs.costs.cost.Given as goal

-- the cost so far and that of what is left are that of all
abbrev pub invariant-loop-at : goal.invariant-loop-at
invariant-loop-at l =
    record {
      so_far : l.cost +ℤ plan_cost (parts_of l.s).tables (drop l.at (parts_of l.s).flights)
          (drop l.at l.trips)
          ≡ plan_cost (parts_of l.s).tables (parts_of l.s).flights l.trips;
      low : neg_ℤ (pos (200000000000 * l.at)) ≤ℤ l.cost;
      high : l.cost ≤ℤ pos (200000000000 * l.at);
    }
