-- The periods that the connections of a flight leave it, beside the flights that are there.
use Rattle.std.specs.Prelude.{◌≡◌, ℕ, ◌+◌, ◌≤◌, Some}
use Rattle.plan_rules.specs.Tally.{Tally}
use Rattle.plan_rules.specs.Loads.{arrival_at, departure_at}
use Rattle.time_windows.specs.declared.turns.Turn.{Turn}

-- there is time for the turnaround after the other flight's arrival
abbrev pub IsAfter : Tally → ℕ → Turn → Type 0
IsAfter loads time turn = (arrives : ℕ) → arrival_at loads turn.other ≡ Some arrives
    → arrives + turn.turnaround ≤ time

-- there is time for the turnaround before the other flight's departure
abbrev pub IsInTime : Tally → ℕ → Turn → Type 0
IsInTime loads time turn = (leaves : ℕ) → departure_at loads turn.other ≡ Some leaves
    → time + turn.turnaround ≤ leaves
