-- From when on a connection costs.
use Rattle.std.specs.Prelude.{ℕ}
use Rattle.time_windows.specs.declared.ends.End.{End}
use Rattle.time_windows.specs.declared.ends.End.TheVariants.{Arrival, Departure}
use Rattle.time_windows.specs.declared.turns.Turn.{Turn}

-- with a departure from the period itself, with an arrival from the turnaround after it
abbrev pub shift_of : End → Turn → ℕ
shift_of Departure turn = 0
shift_of Arrival turn = turn.turnaround
