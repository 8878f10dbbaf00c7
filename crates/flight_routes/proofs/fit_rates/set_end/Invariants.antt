use Rattle.std.proofs.Common.{◌≤◌, ◌<◌, ℕ}
use Rattle.flow_types.specs.Scenario.{flight_at, parts_of}
use Rattle.flight_routes.specs.Filling.{AreSmallAt, OnlyEnd}
use Rattle.flight_routes.specs.FitRates.{IsGiven}
use Rattle.flight_routes.specs.FitTimes.{IsFreeAt, fit_value}
use Rattle.flight_routes.specs.RateLists.{rates_of}
use Rattle.flight_routes.specs.Rates.{rate_at}
use Rattle.flight_routes.proofs.fit_rates.set_end.Given as goal

abbrev pub invariant-loop-time : goal.invariant-loop-time
invariant-loop-time l =
    ((t : ℕ) → l.fn.window.lo ≤ t → t < l.time
    → IsGiven (rate_at l.end (rates_of l.table) t)
    (IsFreeAt l.end (parts_of l.loaded.s.now) l.loaded.loads.now
    (flight_at l.loaded.s.now l.loaded.flight) l.bound t)
    (fit_value l.end (parts_of l.loaded.s.now).tables (flight_at l.loaded.s.now l.loaded.flight) t))
    × OnlyEnd l.end l.fn.table l.table
    × (AreSmallAt l.end l.fn.table → AreSmallAt l.end l.table)
