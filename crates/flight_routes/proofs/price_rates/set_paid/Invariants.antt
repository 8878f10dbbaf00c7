use Rattle.std.proofs.Common.{◌≡◌, ◌≤◌, ◌<◌, ◌*◌, ◌^◌, ℕ, pos}
use Rattle.flight_routes.specs.Filling.{ArePaidSmall, OnlyPaid}
use Rattle.flight_routes.specs.Prices.{price_in, summed}
use Rattle.flight_routes.specs.RateLists.{rates_of}
use Rattle.flight_routes.proofs.price_rates.set_paid.Given as goal

abbrev pub invariant-loop-time : goal.invariant-loop-time
invariant-loop-time l =
    ((t : ℕ) → l.fn.table.span.lo ≤ t → t < l.time → (rates_of l.table).paid l.node t
    ≡ pos (summed (price_in l.prices.inside l.place) l.fn.table.span.lo t))
    × (l.sum ≡ summed (price_in l.prices.inside l.place) l.fn.table.span.lo l.time)
    × (l.sum ≤ l.time * 2 ^ 62)
    × OnlyPaid l.node l.fn.table l.table
    × (ArePaidSmall l.fn.table → ArePaidSmall l.table)
