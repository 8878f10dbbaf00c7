use Rattle.std.proofs.Common.{◌≡◌, ℕ, ◌<◌, None, get_or}
use Rattle.plan_rules.proofs.loads.clear_times.Given as goal

abbrev pub invariant-loop-time : goal.invariant-loop-time
invariant-loop-time l = (f : ℕ) → f < l.time-index → get_or l.time-items f None ≡ None
