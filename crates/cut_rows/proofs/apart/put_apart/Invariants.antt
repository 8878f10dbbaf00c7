use Rattle.std.proofs.Common.{[], ◌∷◌, take}
use Rattle.std.specs.List.{flat_map}
use Rattle.bytime_model.proofs.FillFacts.{IsFilled}
use Rattle.cut_rows.specs.Cuts.{apart_term}
use Rattle.cut_rows.proofs.apart.put_apart.Given as goal

abbrev pub invariant-loop-node : goal.invariant-loop-node
invariant-loop-node l =
    IsFilled (flat_map (λ node. apart_term l.flight l.time node ∷ [])
    (take l.node-index l.nodes)) l.node-index l.initial.buffer l.buffer
