use Rattle.std.proofs.Common.{◌≡◌, ◌+◌, ◌*◌, length, reverse, All}
use Rattle.flow_types.specs.Scenario.{parts_of}
use Rattle.number_set.specs.Few.{count_in}
use Rattle.time_windows.specs.Held.{Held, IsMadeFor}
use Rattle.time_windows.specs.Narrowing.{AreNoted, AreTightRows, AreWaiting, IsDone, Narrows, total_width}
use Rattle.time_windows.specs.Path.{above_of, with_accesses}
use Rattle.time_windows.specs.Tight.{IsTight}
use Rattle.time_windows.specs.Trail.{IsChange, IsSoundAccess}
use Rattle.time_windows.proofs.trail.tighten_noted.Given as goal

abbrev pub invariant-loop-moved : goal.invariant-loop-moved
invariant-loop-moved l = record {
  narrows : Narrows (IsTight (parts_of l.s)) l.fn.boxes.accesses l.boxes.accesses;
  rows : AreTightRows (parts_of l.s) l.boxes.accesses;
  waits : AreWaiting (parts_of l.s) l.waiting;
  done : All (IsDone (parts_of l.s) l.boxes.accesses l.waiting) (parts_of l.s).connections;
  noted : AreNoted l.accesses.items l.boxes.accesses l.waiting;
  made : IsMadeFor (parts_of l.s) l.boxes;
  rest : l.fn.boxes ≡ with_accesses l.boxes l.fn.boxes.accesses;
  path : (held : Held) → above_of (with_accesses held l.accesses.items) (reverse l.log.items)
      ≡ above_of (with_accesses held l.fn.accesses.items) (reverse l.fn.log.items);
  count : length l.accesses.items ≡ length l.fn.accesses.items;
  boxes_count : length l.boxes.accesses ≡ length l.fn.boxes.accesses;
  sound : All IsSoundAccess l.accesses.items;
  changes : All (IsChange (length l.accesses.items)) l.log.items;
}

abbrev pub decreases-loop-moved : goal.decreases-loop-moved
decreases-loop-moved l = total_width l.boxes.accesses * (length (parts_of l.s).flights + 1)
    + count_in l.waiting (length (parts_of l.s).flights)
