use Rattle.std.proofs.Common.{◌≡◌, ℕ, ◌<◌, [], get_or, length}
use Rattle.time_windows.specs.Turns.{turns_in}
use Rattle.time_windows.proofs.turns.turns_by.Given as goal

abbrev pub invariant-loop-flight : goal.invariant-loop-flight
invariant-loop-flight l =
    (l.groups.pending ≡ []) × (length l.groups.closed ≡ l.flight)
    × ((number : ℕ) → number < l.flight
    → get_or l.groups.closed number [] ≡ turns_in l.end number 0 l.connections)
