use Rattle.std.proofs.Common.{◌≡◌, ◌++◌, ◌==◌, drop}
use Rattle.std.specs.List.{filter}
use Rattle.time_windows.proofs.leg_groups.add_legs.Given as goal

abbrev pub invariant-loop-leg : goal.invariant-loop-leg
invariant-loop-leg l =
    (l.leg_groups.closed ≡ l.fn.leg_groups.closed)
    × (l.leg_groups.pending ++ filter (λ leg. leg.from == l.node) (drop l.leg-index l.leg-items)
    ≡ l.fn.leg_groups.pending ++ filter (λ leg. leg.from == l.node) l.leg-items)
