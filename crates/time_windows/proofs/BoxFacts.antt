-- Boxes that say the same hold the same trips and plans.
use Rattle.std.proofs.Common.{◌≡◌, ℕ, List, get_or, sym, ap, ◌∙◌, subst}
use Rattle.flow_types.specs.declared.plan.Stop.{Stop}
use Rattle.time_windows.specs.declared.access.Access.{Access}
use Rattle.time_windows.specs.Boxes.{Box, IsInBox, IsInWindow, IsTripInBox}

pub trip_in_same : (row other : ℕ → Access) (stops : List Stop) → ((n : ℕ) → row n ≡ other n)
    → IsTripInBox row stops → IsTripInBox other stops
trip_in_same row other stops same inside = record {
  windows = λ k d within.
      subst (λ (a : Access). IsInWindow a.window (get_or stops k d).time)
      (same (get_or stops k d).node) (inside.windows k d within);
  musts = λ n must. inside.musts n (ap (λ (a : Access). a.must) (same n) ∙ must);
}

pub in_box_same : (box other : Box) (plan : List (List Stop))
    → ((f n : ℕ) → other f n ≡ box f n) → IsInBox box plan → IsInBox other plan
in_box_same box other plan same inside f trip here =
    trip_in_same (box f) (other f) trip (λ n. sym (same f n)) (inside f trip here)
