use Rattle.std.proofs.Common.{take, AllPairs}
use Rattle.flow_types.proofs.differ.all_differ.Given as goal

abbrev pub invariant-loop-at : goal.invariant-loop-at
invariant-loop-at g l = AllPairs g.T.Differ.is_other (take l.at l.items)
