use Rattle.std.proofs.Common.{length, ◌≡◌, ◌≤◌, ◌+◌, All, take}
use Rattle.row_arena.specs.Products.{IsWalked, first_entries}
use Rattle.row_arena.proofs.walk.rest.Given as goal

abbrev pub invariant-loop-i : goal.invariant-loop-i
invariant-loop-i g l = record {
  walked : IsWalked l.by l.target l.pivot l.i (length l.pivot)
      (first_entries g.W.Width.entry l.count l.out);
  kept : All g.W.Width.IsKept (take l.count l.out);
  within : l.count ≤ l.i + length l.pivot;
  long : length l.out ≡ length l.fn.out;
}
