use Rattle.std.proofs.Common.{length, ◌-◌, ◌≡◌, ◌≤◌, ◌+◌, All, take}
use Rattle.row_arena.specs.Products.{IsWalked, first_entries}
use Rattle.row_arena.proofs.walk.before.Given as goal

abbrev pub invariant-loop-i : goal.invariant-loop-i
invariant-loop-i g l = record {
  walked : IsWalked l.by l.target l.pivot l.i l.k (first_entries g.W.Width.entry l.count l.out);
  kept : All g.W.Width.IsKept (take l.count l.out);
  within : l.count ≤ l.i + l.k;
  long : length l.out ≡ length l.fn.out;
}

abbrev pub decreases-loop-i : goal.decreases-loop-i
decreases-loop-i g l = length l.target - l.i
