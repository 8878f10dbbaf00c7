use Rattle.std.proofs.Common.{ℕ, ◌<◌}
use Rattle.flight_routes.specs.Firsts.{IsKeptStart}
use Rattle.flight_routes.specs.RateLists.{rates_of}
use Rattle.flight_routes.specs.Ready.{row_of}
use Rattle.flight_routes.proofs.trace.first_start.Given as goal

-- no period so far has the cost
abbrev pub invariant-loop-time : goal.invariant-loop-time
invariant-loop-time l =
    (u : ℕ) → u < l.time
    → IsKeptStart (row_of l.ways.accesses.now) (rates_of l.ways.rates.now) l.cells l.least u → ⊥
