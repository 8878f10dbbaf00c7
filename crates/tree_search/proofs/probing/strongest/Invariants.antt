use Rattle.std.proofs.Common.{All}
use Rattle.tree_search.specs.Rooms.{AreRoomsFor}
use Rattle.tree_search.specs.Seen.{IsBranchOf}
use Rattle.time_windows.specs.Subproblems.{box_in, parts_in}
use Rattle.tree_search.proofs.probing.strongest.Given as goal

abbrev pub invariant-loop-at : goal.invariant-loop-at
invariant-loop-at l = record {
  chosen : IsBranchOf (parts_in l.problem) (box_in l.problem) l.chosen.branch;
  candidates : All (IsBranchOf (parts_in l.problem) (box_in l.problem)) l.candidates.items;
  rooms : AreRoomsFor (parts_in l.problem) l.rooms;
}
