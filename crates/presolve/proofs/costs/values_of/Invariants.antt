use Rattle.std.proofs.Common.{◌≡◌, map}
use Rattle.std.specs.List.{range_with_len}
use Rattle.row_arena.specs.Rows.{entry_at}
use Rattle.presolve.specs.Listing.{IsWalked}
use Rattle.presolve.proofs.costs.values_of.Given as goal

abbrev pub invariant-loop-column : goal.invariant-loop-column
invariant-loop-column l =
    (l.values.items ≡ map (entry_at l.entries) (range_with_len 0 l.column))
    × IsWalked l.column l.entries l.place
