use Rattle.std.proofs.Common.{◌≡◌, None}
use Rattle.plan_rules.specs.FirstBroken.{broken_turn, first_below, found_at}
use Rattle.plan_rules.specs.Loads.{arrival_at, departure_at}
use Rattle.plan_rules.proofs.judging.check_turns.Given as goal

-- no connection so far is broken
abbrev pub invariant-loop-at : goal.invariant-loop-at
invariant-loop-at l =
    first_below l.at (found_at
    (broken_turn (arrival_at l.loads) (departure_at l.loads)) l.connections) ≡ None
