use Rattle.std.proofs.Common.{◌≡◌, ◌+◌, ◌*◌, ◌≤◌, ◌^◌, ℕ, get_or, sum_by, take}
use Rattle.flight_routes.specs.Later.{shift_of}
use Rattle.flight_routes.specs.Prices.{price_in, summed}
use Rattle.flight_routes.proofs.later.add_up_later.Given as goal

abbrev pub invariant-loop-turn : goal.invariant-loop-turn
invariant-loop-turn l =
    ((t : ℕ) → l.window.lo ≤ t → t ≤ l.window.hi → get_or l.sums t 0 ≤ l.turn-index * 2 ^ 71)
    × ((t : ℕ) → l.window.lo ≤ t → t ≤ l.window.hi → get_or l.sums t 0
    ≡ sum_by (λ turn. summed (price_in l.prices.turns turn.connection)
    (t + shift_of l.end turn) l.periods) (take l.turn-index l.turns))
