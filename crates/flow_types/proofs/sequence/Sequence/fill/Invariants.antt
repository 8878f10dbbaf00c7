use Rattle.std.proofs.Common.{◌≡◌, length}
use Rattle.flow_types.specs.Lists.{filled}
use Rattle.flow_types.proofs.sequence.Sequence.fill.Given as goal

abbrev pub invariant-loop-k : goal.invariant-loop-k
invariant-loop-k g l =
    (l.self-inside.held.items ≡ filled l.from l.k l.item l.fn.self)
    × (length l.self-inside.held.items ≡ length l.fn.self)
