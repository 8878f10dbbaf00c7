use Rattle.std.proofs.Common.{◌≡◌, None, length}
use Rattle.plan_rules.specs.FirstBroken.{broken_trip_in, first_below, found_at}
use Rattle.plan_rules.proofs.trips.check_trips.Given as goal

-- no trip so far breaks a rule
abbrev pub invariant-loop-at : goal.invariant-loop-at
invariant-loop-at l =
    record {
      same_length : length l.plan ≡ length l.flights;
      none : first_below l.at (found_at (broken_trip_in l.periods l.plan) l.flights) ≡ None;
    }
