use Rattle.std.proofs.Common.{sum_by, take}
use Rattle.presolve.specs.Frames.{box_in, parts_in, pool_in}
use Rattle.presolve.specs.Counting.{IsCounted, row_entries}
use Rattle.presolve.specs.Listing.{AddsRows}
use Rattle.presolve.proofs.rows.add_rows.Given as goal

abbrev pub invariant-loop-name : goal.invariant-loop-name
invariant-loop-name l = record {
  rows : AddsRows (parts_in l.frame) (pool_in l.frame)
      (box_in l.frame)
      (take l.name-index l.fn.names)
      l.fn.draft.program l.draft.program l.fn.draft.kept l.draft.kept;
  counted : IsCounted (sum_by (row_entries (parts_in l.frame) (pool_in l.frame)
      (box_in l.frame))
      (take l.name-index l.fn.names)) l.fn.draft.tally l.draft.tally;
}
