use Rattle.std.proofs.Common.{◌+◌, ◌-◌, length}
use Rattle.flow_types.specs.Scenario.{parts_of}
use Rattle.exact_sums.proofs.LoopFacts.{AreOfNumbers}
use Rattle.bytime_model.specs.declared.variables.Var.TheVariants.{By}
use Rattle.bytime_model.specs.CostRow.{late_step, unless_zero}
use Rattle.bytime_model.proofs.cost_row.add_late_terms.Given as goal

abbrev pub invariant-loop-delay : goal.invariant-loop-delay
invariant-loop-delay l =
    AreOfNumbers (λ delay. unless_zero (late_step (parts_of l.s).tables l.flight delay)
    (By l.number (length l.flight.nodes - 1) (l.flight.sa + delay))) 0 l.delay l.initial.terms
    l.terms
