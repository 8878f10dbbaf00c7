use Rattle.std.proofs.Common.{length, ◌≡◌, ◌≤◌, ◌+◌, All, take, vec_capacity}
use Rattle.row_arena.specs.Products.{AreFilledBy, IsWalked, first_entries}
use Rattle.row_arena.proofs.walk.walk.Given as goal

abbrev pub invariant-loop-k : goal.invariant-loop-k
invariant-loop-k g l = record {
  walked : IsWalked l.by l.target l.pivot l.at.target l.k
      (first_entries g.W.Width.entry l.at.count l.out);
  kept : All g.W.Width.IsKept (take l.at.count l.out);
  within : l.at.count ≤ l.at.target + l.k;
  long : length l.out ≡ length l.fn.out;
  filled : AreFilledBy l.target l.pivot l.k l.filled.items;
  count : length l.filled.items ≤ l.k;
  room : vec_capacity l.fn.filled ≤ vec_capacity l.filled;
}
