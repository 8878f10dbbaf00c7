use Rattle.std.proofs.Common.{◌<◌, ◌^◌, ◌↔◌, ℕ, All, take}
use Rattle.flight_routes.specs.TurnTimes.{IsInTime}
use Rattle.flight_routes.proofs.turn_times.arrive_limit.Given as goal

abbrev pub invariant-loop-turn : goal.invariant-loop-turn
invariant-loop-turn l = (time : ℕ) → time < 2 ^ 16
    → (time < l.limit) ↔ All (IsInTime l.loads time) (take l.turn-index l.turns)
