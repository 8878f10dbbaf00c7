use Rattle.std.proofs.Common.{◌≡◌, length}
use Rattle.flow_types.specs.Scenario.{parts_of}
use Rattle.plan_rules.specs.Loads.{IsMadeFor}
use Rattle.plan_improver.proofs.improver.take_over.Given as goal

abbrev pub invariant-loop-number : goal.invariant-loop-number
invariant-loop-number l =
    IsMadeFor (parts_of l.s) l.loads × (length l.choices ≡ length l.fn.choices)
