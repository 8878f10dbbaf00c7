use Rattle.std.proofs.Common.{◌≡◌, ◌++◌, ◌-◌, Some, drop, length, slice_get}
use Rattle.bytime_model.specs.declared.visits.Stand.{Stand}
use Rattle.bytime_model.specs.Visits.{visits_in}
use Rattle.bytime_model.proofs.visits.add_visits.Given as goal

-- the visits so far and those from here on are all of them
abbrev pub invariant-loop-at : goal.invariant-loop-at
invariant-loop-at l =
    record {
      closed : l.groups.closed ≡ l.fn.groups.closed;
      pending : l.groups.pending ++ visits_in l.place (drop l.at l.stands)
          ≡ l.fn.groups.pending ++ visits_in l.place l.stands;
      here : (stand : Stand) → slice_get l.stands l.at ≡ Some stand → stand.place ≡ l.place;
    }

abbrev pub decreases-loop-at : goal.decreases-loop-at
decreases-loop-at l = length l.stands - l.at
