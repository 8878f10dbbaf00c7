-- What it takes for a certificate to be read back from its text: a tree, cuts of the scenario and
-- rows that ascend, and numbers and lists of nodes within the limits of lines.
use Rattle.std.specs.Prelude.{◌≡◌, ℕ, ◌≤◌, true, List, [], ◌∷◌, length, Option, Some, None}
use Rattle.flow_types.specs.declared.flight.Flight.{Flight}
use Rattle.flow_types.specs.declared.parts.Parts.{Parts}
use Rattle.flow_types.specs.declared.plan.Stop.{Stop}
use Rattle.flow_types.specs.Costs.{plan_cost}
use Rattle.flow_types.specs.Limits.{most_nodes}
use Rattle.bytime_model.specs.declared.multiplier.Multiplier.{Multiplier}
use Rattle.bytime_model.specs.declared.names.RowName.{RowName}
use Rattle.cut_rows.specs.declared.names.CutName.{CutName}
use Rattle.cut_rows.specs.Cuts.{is_cut}
use Rattle.cut_rows.specs.Order.{follows_last}
use Rattle.branch_tree.specs.declared.leaf.Leaf.{Leaf as LeafKind}
use Rattle.branch_tree.specs.declared.leaf.Leaf.TheVariants as leaf
use Rattle.branch_tree.specs.declared.tree.TreeNode.{TreeNode}
use Rattle.branch_tree.specs.declared.tree.TreeNode.TheVariants.{Leaf, Split}
use Rattle.branch_tree.specs.Trees.{is_tree}
use Rattle.certificate.specs.Limits.{most_bound, most_cost}
use Rattle.certificate.specs.Lines.{bound_number}
use Rattle.certificate.specs.Ranges.{AreStopsInRange, IsCountInRange, IsCutInRange, IsDigest, IsLeafInRange, IsMultiplierInRange, IsSplitInRange, IsWithinEither}
use Rattle.certificate.specs.Stages.{is_above}
use Rattle.certificate.specs.Texts.{Certified}

-- cuts of the scenario, each after the last one
abbrev pub AreCutsWritable : Parts → Option CutName → List CutName → Type 0
AreCutsWritable parts last [] = Unit {0}
AreCutsWritable parts last (cut ∷ pool) =
    (IsCutInRange cut × (follows_last last cut ≡ true) × (is_cut parts cut ≡ true))
    × AreCutsWritable parts (Some cut) pool

-- rows that ascend from the last one on
abbrev pub AreAbove : Option RowName → List Multiplier → Type 0
AreAbove last [] = Unit {0}
AreAbove last (multiplier ∷ rows) =
    (is_above last multiplier.row ≡ true) × AreAbove (Some multiplier.row) rows

abbrev pub AreRowsInRange : List Multiplier → Type 0
AreRowsInRange [] = Unit {0}
AreRowsInRange (multiplier ∷ rows) = IsMultiplierInRange multiplier × AreRowsInRange rows

pub record AreLeafRows (weight : ℕ) (rows : List Multiplier) : Type 0 where
  pub sizes : IsLeafInRange weight (length rows)
  pub each : AreRowsInRange rows
  pub ascending : AreAbove None rows

abbrev pub IsLeafWritable : LeafKind → Type 0
IsLeafWritable leaf.Empty = Unit {0}
IsLeafWritable leaf.Unit = Unit {0}
IsLeafWritable (leaf.Dual weight rows) = AreLeafRows weight rows
IsLeafWritable (leaf.Lag weight rows) = AreLeafRows weight rows

abbrev pub IsNodeWritable : TreeNode → Type 0
IsNodeWritable (Leaf leaf) = IsLeafWritable leaf
IsNodeWritable (Split flight node time cutoff) = IsSplitInRange flight node time cutoff

abbrev pub AreNodesWritable : List TreeNode → Type 0
AreNodesWritable [] = Unit {0}
AreNodesWritable (node ∷ nodes) = IsNodeWritable node × AreNodesWritable nodes

-- a trip of each flight, within its range
abbrev pub AreTripsWritable : List Flight → List (List Stop) → Type 0
AreTripsWritable [] [] = Unit {0}
AreTripsWritable [] (trip ∷ plan) = ⊥
AreTripsWritable (flight ∷ flights) [] = ⊥
AreTripsWritable (flight ∷ flights) (trip ∷ plan) =
    (AreStopsInRange flight trip × (length trip ≤ most_nodes)) × AreTripsWritable flights plan

pub record IsPlanWritable (parts : Parts) (plan : List (List Stop)) : Type 0 where
  pub trips : AreTripsWritable parts.flights plan
  pub cost : IsWithinEither most_cost (Some (plan_cost parts.tables parts.flights plan))

abbrev pub IfPlanWritable : Parts → Option (List (List Stop)) → Type 0
IfPlanWritable parts None = Unit {0}
IfPlanWritable parts (Some plan) = IsPlanWritable parts plan

-- what the text of a certificate is read back for
pub record IsWritable (parts : Parts) (cert : Certified) : Type 0 where
  pub digest : IsDigest cert.digest
  pub pool : AreCutsWritable parts None cert.pool
  pub nodes : AreNodesWritable cert.tree
  pub tree : is_tree cert.tree ≡ true
  pub plan : IfPlanWritable parts cert.plan
  pub bound : IsWithinEither most_bound (bound_number cert.bound)
  pub count : IsCountInRange (length cert.tree)
