use Rattle.std.proofs.Common.{[], ◌∷◌}
use Rattle.exact_sums.proofs.LoopFacts.{AreOfNumbers}
use Rattle.bytime_model.specs.Kinds.{name_at}
use Rattle.bytime_model.proofs.all_rows.add_thirds.Given as goal

abbrev pub invariant-loop-third : goal.invariant-loop-third
invariant-loop-third l =
    AreOfNumbers (λ third. name_at l.kind l.first l.second third ∷ []) l.initial.third l.third
    l.initial.names l.names
