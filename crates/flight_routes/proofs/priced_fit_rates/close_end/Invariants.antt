use Rattle.std.proofs.Common.{◌≡◌, ◌≤◌, ◌<◌, ℕ}
use Rattle.flight_routes.specs.Filling.{AreSmallAt, OnlyEnd}
use Rattle.flight_routes.specs.PricedFitRates.{if_both}
use Rattle.flight_routes.specs.RateLists.{rates_of}
use Rattle.flight_routes.specs.Rates.{rate_at}
use Rattle.flight_routes.proofs.priced_fit_rates.close_end.Given as goal

abbrev pub invariant-loop-time : goal.invariant-loop-time
invariant-loop-time l =
    ((t : ℕ) → l.fn.window.lo ≤ t → t < l.time → rate_at l.end (rates_of l.table) t
    ≡ if_both (rate_at l.end (rates_of l.fits) t) (rate_at l.end (rates_of l.fn.table) t))
    × ((t : ℕ) → l.time ≤ t → rate_at l.end (rates_of l.table) t
    ≡ rate_at l.end (rates_of l.fn.table) t)
    × OnlyEnd l.end l.fn.table l.table
    × (AreSmallAt l.end l.fn.table → AreSmallAt l.end l.table)
