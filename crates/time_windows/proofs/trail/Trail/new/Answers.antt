use Rattle.std.proofs.Common.{rules}
use Rattle.time_windows.proofs.PathFacts.{accesses_sound}
use Rattle.time_windows.proofs.trail.Trail.new.Goals as goal

pub invariant_of-result : goal.invariant_of-result
invariant_of-result c = record {
  same = search rules;
  sound = accesses_sound _ (search rules);
  few = search rules;
  changes = search rules;
  depth_is = search rules;
}
