use Rattle.std.proofs.Common.{◌+◌, ◌≤◌, ℕ, None, slice_index_or}
use Rattle.exact_sums.specs.Leasts.{IsLeast}
use Rattle.flight_routes.specs.Entries.{IsEntry, IsMove, IsOfferedFrom, cell_in, entry_cost}
use Rattle.flight_routes.specs.RateLists.{clear_in, paid_in}
use Rattle.flight_routes.proofs.relax.relax.Given as goal

-- `wait` is the least entry from this period on, and each slot whose turn has come was offered its
-- move
abbrev pub invariant-loop-time : goal.invariant-loop-time
invariant-loop-time l =
    record {
      wait : IsLeast (IsEntry (clear_in l.passage.clear.now) (cell_in l.passage.cells.now)
          l.passage.next l.time)
          (entry_cost (paid_in l.passage.paid.now) (cell_in l.passage.cells.now)) l.wait;
      slots : (t : ℕ) → l.window.lo ≤ t → t ≤ l.window.hi
          → IsOfferedFrom l.time (t + l.least)
          (IsMove (clear_in l.passage.clear.now) (cell_in l.passage.cells.now) l.passage.next
          l.least t)
          (entry_cost (paid_in l.passage.paid.now) (cell_in l.passage.cells.now))
          (slice_index_or l.fn.row t None) (slice_index_or l.row t None);
    }
