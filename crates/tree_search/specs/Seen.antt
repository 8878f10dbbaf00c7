-- What is seen of a box: a leaf, or where it is split. No public clause cites these.
use Rattle.std.specs.Prelude.{List, ◌≡◌, ℕ, ◌<◌, ◌≤◌, Bool, true, not, ◌&&◌, length, Option, None, Some, IfSome, ℤ}
use Rattle.flow_types.specs.declared.bound.Bound.{Bound}
use Rattle.flow_types.specs.declared.parts.Parts.{Parts}
use Rattle.time_windows.specs.Boxes.{Box, options_of}
use Rattle.time_windows.specs.Splits.{IsBranching}
use Rattle.branch_tree.specs.declared.leaf.Leaf.{Leaf as LeafKind}
use Rattle.time_windows.specs.Tight.{IsLive}
use Rattle.flow_types.specs.Bounds.{IsNearBound, is_reached}
use Rattle.cut_rows.specs.declared.names.CutName.{CutName}
use Rattle.branch_tree.specs.Leaves.{IsInRange}
use Rattle.relaxed_bound.specs.declared.leaf.Relaxed.{Relaxed}
use Rattle.relaxed_bound.specs.declared.limits.Limits.{Limits}
use Rattle.relaxed_bound.specs.Licence.{IsLicensed, IsUnreached}
use Rattle.relaxed_bound.specs.Relaxed.{HasBound, relaxed_leaf}
use Rattle.tree_search.specs.declared.found.Budget.{Budget}
use Rattle.flight_routes.specs.Prices.{PriceTable}
use Rattle.tree_search.specs.declared.seeing.Seen.{Seen}
use Rattle.tree_search.specs.declared.seeing.Seen.TheVariants.{Leaf, Split}
use Rattle.tree_search.specs.declared.seeing.Told.{Told}
use Rattle.branch_tree.specs.declared.walk.Branch.{Branch}
use Rattle.tree_search.specs.Nodes.{IsLeafNode, IsSplitNode}
use Rattle.tree_search.specs.Rooms.{IsClimbed}

-- a branch of the box
pub record IsBranchOf (parts : Parts) (box : Box) (branch : Branch) : Type 0 where
  pub there : branch.flight < length parts.flights
  pub branching : IsBranching (box branch.flight branch.node) branch.time

-- a branch, or that no node has several options
abbrev pub IsChoiceIn : Parts → Box → Option Branch → Type 0
IsChoiceIn parts box None = (f n : ℕ) → options_of (box f n) ≤ 1
IsChoiceIn parts box (Some branch) = IsBranchOf parts box branch

-- what the relaxation of the box tells with these cuts
pub record IsRelaxedIn (parts : Parts) (pool : List CutName) (box : Box) (limits : Limits)
    (cutoff : Option ℤ) (relaxed : Relaxed) : Type 0 where
  pub leaf : relaxed.leaf ≡ relaxed_leaf parts pool box limits cutoff
  pub range : IsInRange relaxed.leaf
  pub some : HasBound parts pool box relaxed.leaf
  pub licensed : IsUnreached parts pool box relaxed.leaf cutoff
      → IsLicensed parts pool box limits cutoff

-- what was told of the box before it is seen, by a run with these cuts and by the best prices
pub record AreTold (parts : Parts) (pool : List CutName) (box : Box) (limits : Limits)
    (cutoff : Option ℤ) (prices : PriceTable) (told : Told) : Type 0 where
  pub relaxed : IfSome told.relaxed (IsRelaxedIn parts pool box limits cutoff)
  pub climbed : IfSome told.climbed (IsClimbed parts box prices)

-- there is room to split a box with these bounds, and neither reaches the cutoff
abbrev pub may_split : Bool → Option ℤ → Bound → Bound → Bool
may_split more cutoff run priced =
    more && (not (is_reached cutoff run) && not (is_reached cutoff priced))

-- a leaf; where there is room for two nodes more, its bound reaches the cutoff
pub record IsLeafSeen (parts : Parts) (pool : List CutName) (budget : Budget) (cutoff : Option ℤ)
    (more : Bool) (box : Box) (leaf : LeafKind) (bound : Bound) : Type 0 where
  pub node : IsLeafNode parts pool budget cutoff bound box leaf
  pub reached : more ≡ true → is_reached cutoff bound ≡ true
  pub near : IsNearBound bound

-- a split, for which there is room
pub record IsSplitSeen (parts : Parts) (pool : List CutName) (budget : Budget) (cutoff : Option ℤ)
    (more : Bool) (box : Box) (branch : Branch) : Type 0 where
  pub live : IsLive box
  pub node : IsSplitNode parts pool budget cutoff box cutoff
  pub branch_is : IsBranchOf parts box branch
  pub room : more ≡ true

abbrev pub IsSeen : Parts → List CutName → Budget → Option ℤ → Bool → Box → Seen → Type 0
IsSeen parts pool budget cutoff more box (Leaf leaf bound) =
    IsLeafSeen parts pool budget cutoff more box leaf bound
IsSeen parts pool budget cutoff more box (Split branch) =
    IsSplitSeen parts pool budget cutoff more box branch
