use Rattle.std.proofs.Common.{◌≡◌, ◌<◌, ℕ}
use Rattle.flow_types.specs.Scenario.{parts_of}
use Rattle.flow_types.specs.Trips.{place_at}
use Rattle.flight_routes.specs.Filling.{IsFitTable}
use Rattle.flight_routes.specs.FitTimes.{IsClearAt, IsFirstFull}
use Rattle.flight_routes.specs.RateLists.{rates_of}
use Rattle.flight_routes.specs.Ready.{IsInSpan}
use Rattle.flight_routes.proofs.fit_rates.set_all_full.Given as goal

abbrev pub invariant-loop-node : goal.invariant-loop-node
invariant-loop-node l =
    ((n t : ℕ) → 0 < n → n < l.node → IsInSpan l.fn.table.span t
    → IsFirstFull (parts_of l.s) l.loads (place_at l.flight n) l.fn.table.span.hi t
    ((rates_of l.table).clear n t))
    × IsFitTable l.table
    × (l.table.leaves ≡ l.fn.table.leaves)
    × (l.table.arrives ≡ l.fn.table.arrives)
    × (l.table.span ≡ l.fn.table.span)
    × ((n : ℕ) → 0 < n → n < l.node → IsClearAt l.fn.table.span n (rates_of l.table))
