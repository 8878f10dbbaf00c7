use Rattle.std.proofs.Common.{◌≡◌, ◌<◌, ℕ, pos}
use Rattle.flow_types.specs.Limits.{most_periods}
use Rattle.flow_types.specs.Trips.{place_at}
use Rattle.flight_routes.specs.Filling.{ArePaidSmall, OnlyStays}
use Rattle.flight_routes.specs.Prices.{price_in, summed}
use Rattle.flight_routes.specs.RateLists.{rates_of}
use Rattle.flight_routes.specs.Ready.{IsInSpan}
use Rattle.flight_routes.proofs.price_rates.set_stays.Given as goal

abbrev pub invariant-loop-node : goal.invariant-loop-node
invariant-loop-node l =
    ((n t : ℕ) → 0 < n → n < l.node → IsInSpan l.fn.table.span t
    → (rates_of l.table).paid n t
    ≡ pos (summed (price_in l.prices.inside (place_at l.flight n)) l.fn.table.span.lo t))
    × ((t : ℕ) → t < most_periods → (rates_of l.table).paid 0 t ≡ (rates_of l.fn.table).paid 0 t)
    × OnlyStays l.fn.table l.table
    × (ArePaidSmall l.fn.table → ArePaidSmall l.table)
