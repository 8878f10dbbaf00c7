use Rattle.std.proofs.Common.{ℕ, ◌<◌}
use Rattle.flight_routes.specs.Entries.{cell_in}
use Rattle.flight_routes.specs.Firsts.{IsEntryAt}
use Rattle.flight_routes.specs.RateLists.{paid_in}
use Rattle.flight_routes.proofs.trace.first_cost.Given as goal

-- no entry so far costs so much
abbrev pub invariant-loop-time : goal.invariant-loop-time
invariant-loop-time l =
    (u : ℕ) → u < l.time
    → IsEntryAt (paid_in l.paid) (cell_in l.cells) l.first l.last l.wanted u → ⊥
