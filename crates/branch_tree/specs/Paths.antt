-- The path down a tree: the present box, those above it, and the steps that led down, the last
-- first. The late side of each step to an early one waits.
use Rattle.std.specs.Prelude.{◌≡◌, ℕ, suc, ◌<◌, Bool, false, true, List, [], ◌∷◌, length}
use Rattle.flow_types.specs.declared.parts.Parts.{Parts}
use Rattle.flow_types.specs.declared.plan.Stop.{Stop}
use Rattle.time_windows.specs.Boxes.{Box, IsInBox}
use Rattle.time_windows.specs.Held.{Held, IsMadeFor, box_of}
use Rattle.time_windows.specs.Splits.{IsBranching, late_branch}
use Rattle.time_windows.specs.Tight.{IsTight, IsTightened}
use Rattle.branch_tree.specs.declared.walk.Branch.{Branch}
use Rattle.branch_tree.specs.declared.walk.Step.{Step}
use Rattle.branch_tree.specs.declared.walk.Step.TheVariants.{Early, Late}

pub record Path : Type 0 where
  pub present : Held
  pub above : List Held
  pub steps : List Step

-- the first box of the path
abbrev pub top_of : Held → List Held → Held
top_of present [] = present
top_of present (held ∷ above) = top_of held above

abbrev pub top_box : Path → Box
top_box path = box_of (top_of path.present path.above)

-- how many boxes wait
abbrev pub waiting_in : List Step → ℕ
waiting_in [] = 0
waiting_in (Early branch ∷ steps) = suc (waiting_in steps)
waiting_in (Late ∷ steps) = waiting_in steps

-- every plan of the box is in the first one
abbrev pub IsPartOf : Box → Held → Type 0
IsPartOf top held = (plan : List (List Stop)) → IsInBox (box_of held) plan → IsInBox top plan

abbrev pub ArePartsOf : Box → List Held → Type 0
ArePartsOf top [] = Unit {0}
ArePartsOf top (held ∷ above) = IsPartOf top held × ArePartsOf top above

-- a tight box that may be split so
pub record IsFork (parts : Parts) (held : Held) (branch : Branch) : Type 0 where
  pub made : IsMadeFor parts held
  pub tight : IsTight parts (box_of held)
  pub there : branch.flight < length parts.flights
  pub branching : IsBranching (box_of held branch.flight branch.node) branch.time

-- each step was made from the box above
abbrev pub AreSteps : Parts → List Held → List Step → Type 0
AreSteps parts above [] = above ≡ []
AreSteps parts [] (step ∷ steps) = ⊥
AreSteps parts (held ∷ above) (Late ∷ steps) = AreSteps parts above steps
AreSteps parts (held ∷ above) (Early branch ∷ steps) =
    IsFork parts held branch × AreSteps parts above steps

-- the boxes that wait, the next first
abbrev pub ArePending : Parts → List Held → List Step → List Box → Type 0
ArePending parts above [] boxes = boxes ≡ []
ArePending parts [] (step ∷ steps) boxes = ⊥
ArePending parts (held ∷ above) (Late ∷ steps) boxes = ArePending parts above steps boxes
ArePending parts (held ∷ above) (Early branch ∷ steps) [] = ⊥
ArePending parts (held ∷ above) (Early branch ∷ steps) (late ∷ boxes) =
    IsTightened parts (late_branch branch.flight branch.node branch.time (box_of held)) late
    × ArePending parts above steps boxes

-- the boxes that wait, the next first, before they are made tight
abbrev pub waiting_boxes : List Held → List Step → List Box
waiting_boxes above [] = []
waiting_boxes [] (step ∷ steps) = []
waiting_boxes (held ∷ above) (Late ∷ steps) = waiting_boxes above steps
waiting_boxes (held ∷ above) (Early branch ∷ steps) =
    late_branch branch.flight branch.node branch.time (box_of held) ∷ waiting_boxes above steps

-- the path has gone on to the next box that waited
pub record IsNext (parts : Parts) (old new : Path) : Type 0 where
  pub made : IsMadeFor parts new.present
  pub late : Box
  pub waited : waiting_boxes old.above old.steps ≡ late ∷ waiting_boxes new.above new.steps
  pub tight : IsTightened parts late (box_of new.present)
  pub steps : AreSteps parts new.above new.steps
  pub pending : (boxes : List Box) → ArePending parts new.above new.steps boxes
      → ArePending parts old.above old.steps (box_of new.present ∷ boxes)
  pub fewer : waiting_in old.steps ≡ suc (waiting_in new.steps)
  pub top : top_of new.present new.above ≡ top_of old.present old.above
  pub parts_of : (top : Box) → ArePartsOf top old.above
      → IsPartOf top new.present × ArePartsOf top new.above

-- no box waited
pub record IsOver (parts : Parts) (old : Path) : Type 0 where
  pub none : ArePending parts old.above old.steps []
  pub waited : waiting_boxes old.above old.steps ≡ []
  pub fewer : waiting_in old.steps ≡ 0

abbrev pub IsNextOr : Parts → Path → Path → Bool → Type 0
IsNextOr parts old new true = IsNext parts old new
IsNextOr parts old new false = IsOver parts old
