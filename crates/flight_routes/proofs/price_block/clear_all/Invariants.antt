use Rattle.std.proofs.Common.{◌≡◌, ℕ, ◌<◌, get_or}
use Rattle.flight_routes.proofs.price_block.clear_all.Given as goal

abbrev pub invariant-loop-price : goal.invariant-loop-price
invariant-loop-price l = (k : ℕ) → k < l.price-index → get_or l.prices k 0 ≡ 0
