use Rattle.std.proofs.Common.{[], ◌∷◌, slice_get, take}
use Rattle.std.specs.List.{flat_map}
use Rattle.flow_types.specs.Scenario.{parts_of}
use Rattle.bytime_model.proofs.FillFacts.{IsFilled}
use Rattle.route_distances.specs.Walks.{legs_of}
use Rattle.cut_rows.specs.Cuts.{head_term}
use Rattle.cut_rows.proofs.heads.put_heads.Given as goal

abbrev pub invariant-loop-head : goal.invariant-loop-head
invariant-loop-head l =
    IsFilled (flat_map (λ head. head_term (parts_of l.s).day.periods
    (legs_of (slice_get (parts_of l.s).flights l.flight)) l.flight l.node l.time head ∷ [])
    (take l.head-index l.heads)) l.head-index l.initial.buffer l.buffer
