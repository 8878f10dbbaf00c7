use Rattle.std.proofs.Common.{◌≡◌, None}
use Rattle.flow_types.specs.Scenario.{parts_of}
use Rattle.plan_rules.specs.FirstBroken.{first_below, first_over_in}
use Rattle.plan_rules.specs.Loads.{load_at}
use Rattle.plan_rules.proofs.judging.check_kind.Given as goal

-- no place so far is over its capacity
abbrev pub invariant-loop-place : goal.invariant-loop-place
invariant-loop-place l =
    first_below l.place (first_over_in (parts_of l.s) l.kind (load_at l.loads l.kind)) ≡ None
