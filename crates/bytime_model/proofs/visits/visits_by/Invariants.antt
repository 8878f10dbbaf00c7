use Rattle.std.proofs.Common.{◌≡◌, ℕ, ◌<◌, [], get_or, length}
use Rattle.bytime_model.specs.Visits.{visits_in}
use Rattle.bytime_model.proofs.visits.visits_by.Given as goal

abbrev pub invariant-loop-place : goal.invariant-loop-place
invariant-loop-place l =
    (l.groups.pending ≡ []) × (length l.groups.closed ≡ l.place)
    × ((place : ℕ) → place < l.place
    → get_or l.groups.closed place [] ≡ visits_in place l.stands)
