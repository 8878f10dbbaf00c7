use Rattle.flow_types.specs.Scenario.{parts_of}
use Rattle.exact_sums.proofs.LoopFacts.{AreOfNumbers}
use Rattle.bytime_model.specs.AllRows.{third_rows}
use Rattle.bytime_model.proofs.all_rows.add_part.Given as goal

abbrev pub invariant-loop-second : goal.invariant-loop-second
invariant-loop-second l =
    AreOfNumbers (third_rows (parts_of l.s) l.kind l.position) 0 l.second l.initial.names l.names
