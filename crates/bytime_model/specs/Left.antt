-- What a box leaves of a variable.
use Rattle.std.specs.Prelude.{◌≡◌, ℕ, ◌==◌, Bool, false, ◌&&◌, nat_le, nat_lt, List, Option, None, Some, slice_get, if◌then◌else◌}
use Rattle.std.specs.List.{list_any}
use Rattle.flow_types.specs.declared.flight.Flight.{Flight}
use Rattle.time_windows.specs.declared.access.Access.{Access}
use Rattle.time_windows.specs.declared.access.Window.{Window}
use Rattle.time_windows.specs.Boxes.{Box}
use Rattle.bytime_model.specs.declared.left.Left.{Left}
use Rattle.bytime_model.specs.declared.left.Left.TheVariants.{Free, One, Same, Zero}
use Rattle.bytime_model.specs.declared.variables.Var.{Var}
use Rattle.bytime_model.specs.declared.variables.Var.TheVariants.{By, Inside}

-- 0 before the window; from its end on 1 where the node must be entered, and else as at the end
abbrev pub by_left : Bool → Option Window → ℕ → ℕ → ℕ → Left
by_left must None flight node time = Zero
by_left must (Some window) flight node time =
    if nat_lt time window.lo then Zero
    else (if must then (if nat_le window.hi time then One else Free)
    else (if nat_lt window.hi time then Same (By flight node window.hi) else Free))

-- the period is before the end of an open window
abbrev pub is_before_end : ℕ → Option Window → Bool
is_before_end time None = false
is_before_end time (Some window) = nat_lt time window.hi

-- the flight may still be on its way from the node to a next one
abbrev pub may_stay : Option Flight → (ℕ → Access) → ℕ → ℕ → Bool
may_stay None row node time = false
may_stay (Some flight) row node time =
    list_any (λ leg. (leg.from == node) && is_before_end time (row leg.to).window) flight.legs

-- 0 before the window, and once every next node that is open has been entered at the latest
abbrev pub inside_left : Option Window → Bool → ℕ → Left
inside_left None stays time = Zero
inside_left (Some window) stays time =
    if nat_lt time window.lo then Zero else (if stays then Free else Zero)

abbrev pub left_of : List Flight → Box → Var → Left
left_of flights box (By flight node time) =
    by_left (box flight node).must (box flight node).window flight node time
left_of flights box (Inside flight node time) =
    inside_left (box flight node).window
    (may_stay (slice_get flights flight) (box flight) node time) time

-- the values agree with what is left of the variable
abbrev pub Agrees : (Var → ℕ) → Var → Left → Type 0
Agrees value variable Zero = value variable ≡ 0
Agrees value variable One = value variable ≡ 1
Agrees value variable (Same other) = value variable ≡ value other
Agrees value variable Free = Unit {0}
