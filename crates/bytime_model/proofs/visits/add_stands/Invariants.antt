use Rattle.std.proofs.Common.{[], ◌∷◌}
use Rattle.exact_sums.proofs.LoopFacts.{AreOfNumbered}
use Rattle.bytime_model.specs.Visits.{stand_of}
use Rattle.bytime_model.proofs.visits.add_stands.Given as goal

abbrev pub invariant-loop-node : goal.invariant-loop-node
invariant-loop-node l =
    AreOfNumbered (λ node place. stand_of l.flight node place ∷ []) l.nodes l.node
    l.initial.stands l.stands
