use Rattle.std.proofs.Common.{◌≡◌, ℕ, ◌<◌, ◌≤◌, None, slice_index_or}
use Rattle.flow_types.specs.Limits.{most_periods}
use Rattle.flight_routes.specs.Entries.{cell_at}
use Rattle.flight_routes.proofs.fill.store.Given as goal

-- the cells so far, and those of other nodes
abbrev pub invariant-loop-time : goal.invariant-loop-time
invariant-loop-time l =
    record {
      here : (t : ℕ) → l.fn.window.lo ≤ t → t < l.time
          → cell_at l.cells l.node t ≡ slice_index_or l.row t None;
      other : (n t : ℕ) → t < most_periods → (n ≡ l.node → ⊥)
          → cell_at l.cells n t ≡ cell_at l.fn.cells n t;
    }
