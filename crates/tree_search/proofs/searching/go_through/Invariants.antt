use Rattle.std.proofs.Common.{◌≡◌, ◌-◌, ◌<◌, length}
use Rattle.tree_search.specs.Rooms.{AreRoomsFor}
use Rattle.tree_search.specs.Searching.{IsSearching}
use Rattle.branch_tree.specs.Paths.{top_box}
use Rattle.time_windows.specs.Subproblems.{parts_in}
use Rattle.tree_search.proofs.searching.go_through.Given as goal

abbrev pub invariant-loop-number : goal.invariant-loop-number
invariant-loop-number l = record {
  searching : IsSearching (parts_in l.start.whole) l.setting.pool.now l.setting.budget l.walk
      l.draft;
  same : top_box l.walk ≡ top_box l.fn.walk;
  rooms : AreRoomsFor (parts_in l.start.whole) l.rooms;
  begun : 0 < length l.draft.nodes;
}

abbrev pub decreases-loop-number : goal.decreases-loop-number
decreases-loop-number l = l.setting.budget.nodes - length l.draft.nodes
