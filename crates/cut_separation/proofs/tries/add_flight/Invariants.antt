use Rattle.std.specs.List.{flat_map, range_with_len}
use Rattle.cut_separation.specs.Exceeding.{AddsFirst, most_cuts}
use Rattle.cut_separation.specs.Framed.{is_taken, parts_in}
use Rattle.cut_separation.specs.Whole.{node_cuts}
use Rattle.cut_separation.proofs.tries.add_flight.Given as goal

-- of the nodes so far
abbrev pub invariant-loop-node : goal.invariant-loop-node
invariant-loop-node l =
    AddsFirst most_cuts (is_taken l.frame) (flat_map (node_cuts l.kind (parts_in l.frame) l.flight)
    (range_with_len 0 l.node)) l.initial.draft.cuts l.draft.cuts
