-- The path down a tree: a step more, a step back, and the next box that waits.
use Rattle.std.proofs.Common.{◌≡◌, ◌≢◌, ◌≤◌, List, [], ◌∷◌, ◌++◌, length, reverse, refl, sym, ◌∙◌, ap, subst, arith}
use Rattle.std.proofs.lemmas.List.{length-reverse, reverse-append}
use Rattle.flow_types.specs.declared.parts.Parts.{Parts}
use Rattle.time_windows.specs.Boxes.{Box}
use Rattle.time_windows.specs.Held.{Held, IsMadeFor, box_of}
use Rattle.time_windows.specs.Splits.{late_branch}
use Rattle.time_windows.specs.Tight.{IsTightened}
use Rattle.time_windows.proofs.PartFacts.{in_late}
use Rattle.branch_tree.specs.declared.walk.Branch.{Branch}
use Rattle.branch_tree.specs.declared.walk.Step.{Step}
use Rattle.branch_tree.specs.declared.walk.Step.TheVariants.{Early, Late}
use Rattle.branch_tree.specs.Paths.{ArePartsOf, AreSteps, ArePending, IsFork, IsNext, IsOver, Path, top_of, waiting_boxes, waiting_in}

-- the last step comes first
pub last_step : (steps : List Step) (step : Step)
    → reverse (steps ++ step ∷ []) ≡ step ∷ reverse steps
last_step steps step = reverse-append steps (step ∷ [])

few_in : (steps : List Step) → waiting_in steps ≤ length steps
few_in [] = omega arith
few_in (Early branch ∷ steps) = omega (arith, few_in steps)
few_in (Late ∷ steps) = omega (arith, few_in steps)

pub few_waiting : (steps : List Step) → waiting_in (reverse steps) ≤ length steps
few_waiting steps = omega (arith, few_in (reverse steps), length-reverse steps)

-- What the boxes above and the steps were, and what they are after some steps up: what waits is the
-- same.
pub record IsBack (parts : Parts) (old : Path) (present : Held) (above : List Held)
    (steps : List Step) : Type 0 where
  pub are : AreSteps parts above steps
  pub pending : (boxes : List Box) → ArePending parts above steps boxes
      → ArePending parts old.above old.steps boxes
  pub waited : waiting_boxes old.above old.steps ≡ waiting_boxes above steps
  pub fewer : waiting_in old.steps ≡ waiting_in steps
  pub top : top_of present above ≡ top_of old.present old.above
  pub parts_of : (top : Box) → ArePartsOf top old.above → ArePartsOf top above

pub back_none : (parts : Parts) (old : Path) → AreSteps parts old.above old.steps
    → IsBack parts old old.present old.above old.steps
back_none parts old are = record {
  are = are;
  pending = λ boxes pending. pending;
  waited = refl;
  fewer = refl;
  top = refl;
  parts_of = λ top are_parts. are_parts;
}

-- there is a box above, as long as there are steps
pub some_above : (parts : Parts) (above : List Held) (step : Step) (steps : List Step)
    → AreSteps parts above (step ∷ steps) → above ≢ []
some_above parts [] step steps are none = are
some_above parts (held ∷ above) step steps are none = cc none

-- up over a late side
pub back_late : (parts : Parts) (old : Path) (present next : Held) (above below : List Held)
    (steps : List Step) → IsBack parts old present above (Late ∷ steps) → above ≡ next ∷ below
    → IsBack parts old next below steps
back_late parts old present next above below steps back is =
    up (subst (λ (l : List Held). IsBack parts old present l (Late ∷ steps)) is back)
  where
    up : IsBack parts old present (next ∷ below) (Late ∷ steps) → IsBack parts old next below steps
    up from = record {
      are = from.are;
      pending = from.pending;
      waited = from.waited;
      fewer = from.fewer;
      top = from.top;
      parts_of = λ top are. (from.parts_of top are).1;
    }

-- up over an early side there is a box to be split so
pub back_fork : (parts : Parts) (old : Path) (present next : Held) (above below : List Held)
    (branch : Branch) (steps : List Step) → IsBack parts old present above (Early branch ∷ steps)
    → above ≡ next ∷ below → IsFork parts next branch
back_fork parts old present next above below branch steps back is =
    (subst (λ (l : List Held). IsBack parts old present l (Early branch ∷ steps)) is back).are.0

-- and down to its late side
pub back_early : (parts : Parts) (old : Path) (present next after : Held)
    (above below new_above : List Held) (branch : Branch) (steps new_steps : List Step)
    → IsBack parts old present above (Early branch ∷ steps) → above ≡ next ∷ below
    → new_above ≡ next ∷ below → new_steps ≡ Late ∷ steps
    → IsTightened parts (late_branch branch.flight branch.node branch.time (box_of next))
    (box_of after)
    → IsMadeFor parts after
    → IsNext parts old (record { present = after; above = new_above; steps = new_steps })
back_early parts old present next after above below new_above branch steps new_steps back is
    above_is steps_are tight made =
    subst (λ (l : List Held). IsNext parts old (record {
      present = after;
      above = l;
      steps = new_steps;
    })) (sym above_is)
    (subst (λ (l : List Step). IsNext parts old (record {
      present = after;
      above = next ∷ below;
      steps = l;
    })) (sym steps_are)
    (down (subst (λ (l : List Held). IsBack parts old present l (Early branch ∷ steps)) is back)))
  where
    down : IsBack parts old present (next ∷ below) (Early branch ∷ steps)
        → IsNext parts old (record {
          present = after;
          above = next ∷ below;
          steps = Late ∷ steps;
        })
    down from = record {
      made = made;
      late = late_branch branch.flight branch.node branch.time (box_of next);
      waited = from.waited;
      tight = tight;
      steps = from.are.1;
      pending = λ boxes pending. from.pending (box_of after ∷ boxes) (tight, pending);
      fewer = from.fewer;
      top = from.top;
      parts_of = λ top are.
          let held = from.parts_of top are in (
            λ plan inside. held.0 plan (in_late branch.flight branch.node branch.time
                (box_of next) (box_of after) plan tight.within inside),
            held,
          );
    }

-- no steps are left
pub back_over : (parts : Parts) (old : Path) (present : Held) (above : List Held)
    → IsBack parts old present above [] → IsOver parts old
back_over parts old present above back = record {
  none = back.pending [] refl;
  waited = back.waited;
  fewer = back.fewer;
}

-- the same steps
pub back_same : (parts : Parts) (old : Path) (present : Held) (above : List Held)
    (steps other : List Step) → steps ≡ other → IsBack parts old present above steps
    → IsBack parts old present above other
back_same parts old present above steps other same =
    subst (IsBack parts old present above) same

-- a step that is popped came first
pub popped : (old new : List Step) (step known : Step) → old ≡ new ++ step ∷ [] → step ≡ known
    → reverse old ≡ known ∷ reverse new
popped old new step known is same =
    ap reverse is ∙ last_step new step ∙ ap (λ s. s ∷ reverse new) same
