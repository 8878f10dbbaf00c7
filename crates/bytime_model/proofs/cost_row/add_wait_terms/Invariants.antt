use Rattle.std.proofs.Common.{◌+◌}
use Rattle.flow_types.specs.Scenario.{parts_of}
use Rattle.exact_sums.proofs.LoopFacts.{AreOfNumbers}
use Rattle.bytime_model.specs.declared.variables.Var.TheVariants.{By}
use Rattle.bytime_model.specs.CostRow.{unless_zero, wait_step}
use Rattle.bytime_model.proofs.cost_row.add_wait_terms.Given as goal

abbrev pub invariant-loop-delay : goal.invariant-loop-delay
invariant-loop-delay l =
    AreOfNumbers (λ delay. unless_zero (wait_step (parts_of l.s).tables l.flight delay)
    (By l.number 0 (l.flight.sd + delay))) 0 l.delay l.initial.terms l.terms
