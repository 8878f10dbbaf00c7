use Rattle.std.proofs.Common.{◌≤◌, ◌-◌, length}
use Rattle.price_ascent.proofs.slopes.position_of.Given as goal

abbrev pub invariant-loop-first : goal.invariant-loop-first
invariant-loop-first l = record {
  first : l.first ≤ l.end;
  end : l.end ≤ length l.slopes;
}

abbrev pub decreases-loop-first : goal.decreases-loop-first
decreases-loop-first l = l.end - l.first
