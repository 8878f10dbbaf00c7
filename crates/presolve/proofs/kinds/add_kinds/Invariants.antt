use Rattle.std.proofs.Common.{take}
use Rattle.bytime_model.specs.AllRows.{kinds_rows}
use Rattle.presolve.specs.Frames.{box_in, parts_in, pool_in}
use Rattle.presolve.specs.Listing.{AddsNames}
use Rattle.presolve.proofs.kinds.add_kinds.Given as goal

abbrev pub invariant-loop-kind : goal.invariant-loop-kind
invariant-loop-kind l =
    AddsNames (parts_in l.frame) (pool_in l.frame)
    (box_in l.frame)
    (kinds_rows (parts_in l.frame) (take l.kind-index l.fn.kinds)) l.fn.draft l.draft
