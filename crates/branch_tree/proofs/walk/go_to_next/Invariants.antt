use Rattle.std.proofs.Common.{◌≡◌, length, reverse}
use Rattle.flow_types.specs.Scenario.{parts_of}
use Rattle.branch_tree.specs.Paths.{waiting_in}
use Rattle.branch_tree.proofs.PathFacts.{IsBack}
use Rattle.branch_tree.proofs.walk.go_to_next.Given as goal

abbrev pub invariant-loop-step : goal.invariant-loop-step
invariant-loop-step l = record {
  count : l.waiting ≡ waiting_in (reverse l.steps.items);
  back : IsBack (parts_of l.s)
      (record {
        present = l.fn.trail.present;
        above = l.fn.trail.above;
        steps = reverse l.fn.steps.items;
      })
      l.trail.present l.trail.above (reverse l.steps.items);
}

abbrev pub decreases-loop-step : goal.decreases-loop-step
decreases-loop-step l = length l.steps.items
