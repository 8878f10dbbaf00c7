use Rattle.std.specs.List.{flat_map, range_with_len}
use Rattle.bytime_model.specs.AllRows.{part_rows}
use Rattle.presolve.specs.Frames.{box_in, parts_in, pool_in}
use Rattle.presolve.specs.Listing.{AddsNames}
use Rattle.presolve.proofs.kinds.add_kind.Given as goal

abbrev pub invariant-loop-position : goal.invariant-loop-position
invariant-loop-position l =
    AddsNames (parts_in l.frame) (pool_in l.frame)
    (box_in l.frame)
    (flat_map (part_rows (parts_in l.frame) l.kind) (range_with_len 0 l.position)) l.initial.draft
    l.draft
