use Rattle.std.proofs.Common.{◌≡◌, ◌+◌, ◌*◌, ◌-◌, ◌≤◌, length}
use Rattle.csv.specs.Records.{fields_of}
use Rattle.plan_text.specs.Trips.{stops_from}
use Rattle.plan_text.proofs.TripFacts.{with_stops}
use Rattle.plan_text.proofs.trips.stops_in.Given as goal

-- what is left decides
abbrev pub invariant-pairs : goal.invariant-pairs
invariant-pairs l =
    (with_stops l.stops (stops_from l.scenario l.nodes (fields_of l.row)
    (32 - length l.stops) l.number) ≡ stops_from l.scenario l.nodes (fields_of l.row) 32 3)
    × (l.number ≡ 2 * length l.stops + 3) × (length l.stops ≤ 32)

abbrev pub decreases-pairs : goal.decreases-pairs
decreases-pairs l = 67 - l.number
