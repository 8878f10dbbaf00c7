use Rattle.std.proofs.Common.{◌≡◌, ◌++◌, length, map}
use Rattle.scenario_maker.specs.Writing.{connection_row, rows_text, standing, waiting}
use Rattle.scenario_maker.proofs.connections.put_standing.Given as goal

-- The text so far, and the lines of those of the left ones that can stand, are the whole; and the
-- same ones wait.
abbrev pub invariant-loop-connection : goal.invariant-loop-connection
invariant-loop-connection l =
    (l.out.items ++ rows_text (map (connection_row l.fn.flights) (standing l.fn.count l.left))
    ≡ l.fn.out.items
    ++ rows_text (map (connection_row l.fn.flights) (standing l.fn.count l.fn.connections)))
    × (waiting l.fn.count l.left ≡ waiting l.fn.count l.fn.connections)

abbrev pub decreases-loop-connection : goal.decreases-loop-connection
decreases-loop-connection l = length l.left
