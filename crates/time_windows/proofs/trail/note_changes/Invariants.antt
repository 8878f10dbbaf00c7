use Rattle.std.proofs.Common.{◌≡◌, length, reverse, All}
use Rattle.time_windows.specs.Held.{Held}
use Rattle.time_windows.specs.Path.{above_of, with_accesses}
use Rattle.time_windows.specs.Trail.{IsChange, IsSoundAccess}
use Rattle.time_windows.proofs.NotedFacts.{AreNotedTo}
use Rattle.time_windows.proofs.trail.note_changes.Given as goal

abbrev pub invariant-loop-index : goal.invariant-loop-index
invariant-loop-index l = record {
  noted : AreNotedTo l.start l.index l.fn.accesses.items l.now l.accesses.items;
  path : (held : Held) → above_of (with_accesses held l.accesses.items) (reverse l.log.items)
      ≡ above_of (with_accesses held l.fn.accesses.items) (reverse l.fn.log.items);
  count : length l.accesses.items ≡ length l.now;
  sound : All IsSoundAccess l.accesses.items;
  changes : All (IsChange (length l.accesses.items)) l.log.items;
}
