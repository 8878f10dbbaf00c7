use Rattle.std.proofs.Common.{◌-◌}
use Rattle.tree_search.specs.Rooms.{ArePriceRoomsFor}
use Rattle.time_windows.specs.Subproblems.{parts_in}
use Rattle.tree_search.proofs.pricing.lean_often.Given as goal

abbrev pub invariant-loop-number : goal.invariant-loop-number
invariant-loop-number l = ArePriceRoomsFor (parts_in l.problem) l.rooms

abbrev pub decreases-loop-number : goal.decreases-loop-number
decreases-loop-number l = 6 - l.number
