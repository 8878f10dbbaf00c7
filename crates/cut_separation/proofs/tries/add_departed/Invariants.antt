use Rattle.std.proofs.Common.{map}
use Rattle.std.specs.List.{range_with_len}
use Rattle.cut_rows.specs.declared.names.CutName.TheVariants.{Departed}
use Rattle.cut_separation.specs.Exceeding.{AddsFirst, most_cuts}
use Rattle.cut_separation.specs.Framed.{is_taken}
use Rattle.cut_separation.proofs.tries.add_departed.Given as goal

-- of the periods so far
abbrev pub invariant-loop-time : goal.invariant-loop-time
invariant-loop-time l =
    AddsFirst most_cuts (is_taken l.frame) (map (Departed l.flight l.node)
    (range_with_len 0 l.time))
    l.initial.draft.cuts l.draft.cuts
