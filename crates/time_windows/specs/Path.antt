-- Paths of boxes: the present box, and the boxes on the way to it, as a log of changes keeps them.
use Rattle.std.specs.Prelude.{ℕ, List, [], ◌∷◌, set}
use Rattle.time_windows.specs.declared.access.Access.{Access}
use Rattle.time_windows.specs.declared.trail.Change.{Change}
use Rattle.time_windows.specs.declared.trail.Change.TheVariants.{Descent, Was}
use Rattle.time_windows.specs.declared.trail.Side.{Side}
use Rattle.time_windows.specs.declared.trail.Side.TheVariants.{Early, Late}
use Rattle.time_windows.specs.Boxes.{Box}
use Rattle.time_windows.specs.Held.{Held}
use Rattle.time_windows.specs.Splits.{early_branch, late_branch}

-- the present box, and those above it, the nearest first
pub record Path : Type 0 where
  pub present : Held
  pub above : List Held

-- a side of a split
abbrev pub branch_of : Side → ℕ → ℕ → ℕ → Box → Box
branch_of Early flight node time box = early_branch flight node time box
branch_of Late flight node time box = late_branch flight node time box

-- the same flights and connections with other accesses
abbrev pub with_accesses : Held → List Access → Held
with_accesses held accesses = record {
  accesses = accesses;
  leg_groups = held.leg_groups;
  turns = held.turns;
}

-- the boxes above, by the changes since, the last change first
abbrev pub above_of : Held → List Change → List Held
above_of held [] = []
above_of held (Descent ∷ changes) = held ∷ above_of held changes
above_of held (Was index access ∷ changes) =
    above_of (with_accesses held (set held.accesses index access)) changes
