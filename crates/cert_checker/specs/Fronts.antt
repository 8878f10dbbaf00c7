-- The boxes of the nodes that are still to come: the next one's, made tight, and those after it, as
-- the splits left them. Where the next node is a leaf whose rows are being read, so much of it.
use Rattle.std.specs.Prelude.{◌≡◌, List, [], ◌∷◌, Option, None, Some}
use Rattle.flow_types.specs.declared.parts.Parts.{Parts}
use Rattle.time_windows.specs.Boxes.{Box}
use Rattle.time_windows.specs.Held.{box_of}
use Rattle.time_windows.specs.Tight.{IsTightened}
use Rattle.branch_tree.specs.Paths.{Path, waiting_boxes}
use Rattle.cert_checker.specs.declared.progress.LeafDraft.{LeafDraft}

pub record Front : Type 0 where
  pub present : Option Box
  pub leaf : Option LeafDraft
  pub waiting : List Box

-- no node is to come
abbrev pub none_left : Front
none_left = record { present = None; leaf = None; waiting = [] }

abbrev pub front_at : Box → List Box → Front
front_at box boxes = record { present = Some box; leaf = None; waiting = boxes }

abbrev pub front_in : Box → LeafDraft → List Box → Front
front_in box draft boxes = record { present = Some box; leaf = Some draft; waiting = boxes }

abbrev pub front_of : Option Path → Option LeafDraft → Front
front_of None leaf = record { present = None; leaf = leaf; waiting = [] }
front_of (Some path) leaf = record {
  present = Some (box_of path.present);
  leaf = leaf;
  waiting = waiting_boxes path.above path.steps;
}

-- after a leaf: the first of the boxes that wait is made tight, if there is one
abbrev pub GoesOn : Parts → List Box → Front → Type 0
GoesOn parts [] front = front ≡ none_left
GoesOn parts (box ∷ boxes) front =
    (tight : Box) × IsTightened parts box tight × (front ≡ front_at tight boxes)
