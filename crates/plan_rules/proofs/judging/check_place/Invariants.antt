use Rattle.std.proofs.Common.{◌≡◌, None}
use Rattle.flow_types.specs.Scenario.{parts_of}
use Rattle.plan_rules.specs.FirstBroken.{broken_capacity, first_below}
use Rattle.plan_rules.specs.Loads.{load_at}
use Rattle.plan_rules.proofs.judging.check_place.Given as goal

-- no period so far is over the capacity
abbrev pub invariant-loop-period : goal.invariant-loop-period
invariant-loop-period l =
    first_below l.period (broken_capacity (parts_of l.s) l.kind (load_at l.loads l.kind) l.place)
    ≡ None
