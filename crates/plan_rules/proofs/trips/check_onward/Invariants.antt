use Rattle.std.proofs.Common.{◌≡◌, ◌≤◌, drop}
use Rattle.plan_rules.specs.FirstBroken.{broken_onward}
use Rattle.plan_rules.proofs.trips.check_onward.Given as goal

-- what is left decides, and each stop so far has led to a higher node
abbrev pub invariant-loop-next : goal.invariant-loop-next
invariant-loop-next l =
    record {
      decides : broken_onward l.periods l.number l.flight l.place_in_trip l.stop
          (drop l.next-index l.rest)
          ≡ broken_onward l.periods l.number l.flight 0 l.fn.first l.rest;
      upward : l.place_in_trip ≤ l.stop.node;
    }
