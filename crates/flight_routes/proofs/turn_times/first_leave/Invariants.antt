use Rattle.std.proofs.Common.{◌≤◌, ◌↔◌, ℕ, All, take}
use Rattle.flight_routes.specs.TurnTimes.{IsAfter}
use Rattle.flight_routes.proofs.turn_times.first_leave.Given as goal

abbrev pub invariant-loop-turn : goal.invariant-loop-turn
invariant-loop-turn l = (time : ℕ)
    → (l.first ≤ time) ↔ All (IsAfter l.loads time) (take l.turn-index l.turns)
