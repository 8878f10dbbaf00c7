use Rattle.std.proofs.Common.{◌≡◌, drop}
use Rattle.time_windows.specs.Held.{access_at}
use Rattle.time_windows.specs.Steps.{latest_limit}
use Rattle.time_windows.proofs.rows.latest_limit.Given as goal

abbrev pub invariant-loop-leg : goal.invariant-loop-leg
invariant-loop-leg l =
    latest_limit (access_at l.accesses l.number) (drop l.leg-index l.legs) l.limit
    ≡ latest_limit (access_at l.accesses l.number) l.legs 0
