use Rattle.std.proofs.Common.{[]}
use Rattle.flow_types.specs.Scenario.{parts_of}
use Rattle.exact_sums.proofs.LoopFacts.{AreOfNumbered}
use Rattle.bytime_model.specs.CostRow.{flight_terms}
use Rattle.bytime_model.proofs.cost_row.cost_terms.Given as goal

abbrev pub invariant-loop-number : goal.invariant-loop-number
invariant-loop-number l =
    AreOfNumbered (flight_terms (parts_of l.s).tables (parts_of l.s).day.periods) l.flights
    l.number [] l.terms
