use Rattle.std.proofs.Common.{ℕ, ◌<◌, slice_get, get_or, IsTrue}
use Rattle.flow_types.specs.Routes.{is_sector}
use Rattle.flow_types.proofs.route.are_sectors_between.Given as goal

abbrev pub invariant-loop-k : goal.invariant-loop-k
invariant-loop-k l = (j : ℕ) → 0 < j → j < l.k
    → IsTrue (is_sector (slice_get l.places (get_or l.nodes j 0)))
