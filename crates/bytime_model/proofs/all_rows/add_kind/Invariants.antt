use Rattle.flow_types.specs.Scenario.{parts_of}
use Rattle.exact_sums.proofs.LoopFacts.{AreOfNumbers}
use Rattle.bytime_model.specs.AllRows.{part_rows}
use Rattle.bytime_model.proofs.all_rows.add_kind.Given as goal

abbrev pub invariant-loop-position : goal.invariant-loop-position
invariant-loop-position l =
    AreOfNumbers (part_rows (parts_of l.s) l.kind) 0 l.position l.initial.names l.names
