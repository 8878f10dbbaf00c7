use Rattle.std.proofs.Common.{◌≡◌, ◌++◌, ◌-◌, Some, drop, length, slice_get}
use Rattle.flow_types.specs.declared.flight.Connection.{Connection}
use Rattle.time_windows.specs.Ends.{flight_at}
use Rattle.time_windows.specs.Turns.{turns_in}
use Rattle.time_windows.proofs.turns.add_turns.Given as goal

-- the turns so far and those from here on are all of them
abbrev pub invariant-loop-at : goal.invariant-loop-at
invariant-loop-at l =
    record {
      closed : l.groups.closed ≡ l.fn.groups.closed;
      pending : l.groups.pending ++ turns_in l.end l.flight l.at (drop l.at l.connections)
          ≡ l.fn.groups.pending ++ turns_in l.end l.flight 0 l.connections;
      here : (connection : Connection) → slice_get l.connections l.at ≡ Some connection
          → flight_at l.end connection ≡ l.flight;
    }

abbrev pub decreases-loop-at : goal.decreases-loop-at
decreases-loop-at l = length l.connections - l.at
