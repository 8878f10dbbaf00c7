use Rattle.std.proofs.Common.{◌≡◌}
use Rattle.std.specs.List.{filter, range_with_len}
use Rattle.cut_rows.specs.Cuts.{is_head}
use Rattle.cut_separation.proofs.tries.heads_among.Given as goal

-- those of the nodes so far
abbrev pub invariant-loop-head : goal.invariant-loop-head
invariant-loop-head l = l.heads ≡ filter (is_head l.legs l.node) (range_with_len 0 l.head)
