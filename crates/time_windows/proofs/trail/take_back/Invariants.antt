use Rattle.std.proofs.Common.{◌≡◌, length, reverse, All}
use Rattle.time_windows.specs.Held.{Held}
use Rattle.time_windows.specs.Path.{above_of, with_accesses}
use Rattle.time_windows.specs.Trail.{IsChange, IsSoundAccess}
use Rattle.time_windows.proofs.trail.take_back.Given as goal

abbrev pub invariant-loop-change : goal.invariant-loop-change
invariant-loop-change l = record {
  path : (held : Held) → above_of (with_accesses held l.accesses.items) (reverse l.log.items)
      ≡ above_of (with_accesses held l.fn.accesses.items) (reverse l.fn.log.items);
  put : l.boxes ≡ with_accesses l.fn.boxes l.accesses.items;
  count : length l.accesses.items ≡ length l.fn.accesses.items;
  sound : All IsSoundAccess l.accesses.items;
  changes : All (IsChange (length l.accesses.items)) l.log.items;
}

abbrev pub decreases-loop-change : goal.decreases-loop-change
decreases-loop-change l = goal.left-loop-change l
