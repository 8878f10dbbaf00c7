use Rattle.std.specs.List.{flat_map, range_with_len}
use Rattle.cut_separation.specs.Exceeding.{AddsFirst, most_cuts}
use Rattle.cut_separation.specs.Framed.{is_taken, parts_in}
use Rattle.cut_separation.specs.Whole.{flight_cuts}
use Rattle.cut_separation.proofs.tries.add_kind.Given as goal

-- of the flights so far
abbrev pub invariant-loop-flight : goal.invariant-loop-flight
invariant-loop-flight l =
    AddsFirst most_cuts (is_taken l.frame) (flat_map (flight_cuts l.kind (parts_in l.frame))
    (range_with_len 0 l.flight)) l.initial.draft.cuts l.draft.cuts
