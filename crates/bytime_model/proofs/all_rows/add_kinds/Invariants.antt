use Rattle.exact_sums.proofs.LoopFacts.{AreOfItems}
use Rattle.bytime_model.specs.AllRows.{kind_rows}
use Rattle.bytime_model.proofs.all_rows.add_kinds.Given as goal

abbrev pub invariant-loop-kind : goal.invariant-loop-kind
invariant-loop-kind l =
    AreOfItems (kind_rows l.fn.s.parts) l.fn.kinds l.kind-index l.fn.names l.names
