-- The text of a certificate: the digest of the day's text, the cuts of a pool, the nodes of a tree,
-- each Dual and Lag leaf with its rows, a plan, if there is one, and the bound.
use Rattle.std.specs.Prelude.{ℕ, List, [], ◌∷◌, ◌++◌, length, Option, None, Some, codes}
use Rattle.std.specs.Fmt.{decimal, signed_decimal}
use Rattle.hex.specs.Hex.{encode_lower}
use Rattle.flow_types.specs.declared.bound.Bound.{Bound}
use Rattle.flow_types.specs.declared.flight.Flight.{Flight}
use Rattle.flow_types.specs.declared.parts.Parts.{Parts}
use Rattle.flow_types.specs.declared.place.Place.{Place}
use Rattle.flow_types.specs.declared.plan.Stop.{Stop}
use Rattle.flow_types.specs.Costs.{plan_cost}
use Rattle.bytime_model.specs.declared.multiplier.Multiplier.{Multiplier}
use Rattle.cut_rows.specs.declared.names.CutName.{CutName}
use Rattle.branch_tree.specs.declared.leaf.Leaf.{Leaf as LeafKind}
use Rattle.branch_tree.specs.declared.leaf.Leaf.TheVariants as leaf
use Rattle.branch_tree.specs.declared.tree.TreeNode.{TreeNode}
use Rattle.branch_tree.specs.declared.tree.TreeNode.TheVariants.{Leaf, Split}
use Rattle.certificate.specs.Lines.{bound_number, cut_fields, leaf_fields, line_of, row_fields, split_fields, stop_fields, whole_word}

-- what a certificate says
pub record Certified : Type 0 where
  pub digest : List ℕ
  pub pool : List CutName
  pub tree : List TreeNode
  pub plan : Option (List (List Stop))
  pub bound : Bound

abbrev pub head_text : List ℕ → List ℕ
head_text digest = line_of (codes "cert") (codes "1" ∷ encode_lower digest ∷ [])

abbrev pub pool_text : List CutName → List ℕ
pool_text [] = []
pool_text (cut ∷ pool) = line_of (codes "cut") (cut_fields cut) ++ pool_text pool

abbrev pub rows_text : List Multiplier → List ℕ
rows_text [] = []
rows_text (multiplier ∷ rows) = line_of (codes "y") (row_fields multiplier) ++ rows_text rows

abbrev pub leaf_text : LeafKind → List ℕ
leaf_text leaf.Empty = line_of (codes "empty") []
leaf_text leaf.Unit = line_of (codes "unit") []
leaf_text (leaf.Dual weight rows) =
    line_of (codes "dual") (leaf_fields weight (length rows)) ++ rows_text rows
leaf_text (leaf.Lag weight rows) =
    line_of (codes "lag") (leaf_fields weight (length rows)) ++ rows_text rows

abbrev pub node_text : TreeNode → List ℕ
node_text (Leaf leaf) = leaf_text leaf
node_text (Split flight node time cutoff) =
    line_of (codes "split") (split_fields flight node time cutoff)

abbrev pub tree_text : List TreeNode → List ℕ
tree_text [] = []
tree_text (node ∷ nodes) = node_text node ++ tree_text nodes

-- a line for the trip of each flight
abbrev pub trips_text : List Place → List Flight → List (List Stop) → List ℕ
trips_text places flights [] = []
trips_text places [] (trip ∷ plan) = []
trips_text places (flight ∷ flights) (trip ∷ plan) =
    line_of (codes "trip") (flight.name ∷ stop_fields places flight trip)
    ++ trips_text places flights plan

-- what the plan costs, and its trips
abbrev pub plan_text : Parts → Option (List (List Stop)) → List ℕ
plan_text parts None = line_of (codes "plan") (codes "none" ∷ [])
plan_text parts (Some plan) =
    line_of (codes "plan") (signed_decimal (plan_cost parts.tables parts.flights plan) ∷ [])
    ++ trips_text parts.places parts.flights plan

abbrev pub bound_text : Bound → List ℕ
bound_text bound = line_of (codes "bound") (whole_word (bound_number bound) ∷ [])

abbrev pub count_text : ℕ → List ℕ
count_text nodes = line_of (codes "end") (decimal nodes ∷ [])

abbrev pub cert_text : Parts → Certified → List ℕ
cert_text parts cert =
    head_text cert.digest ++ (pool_text cert.pool ++ (tree_text cert.tree
    ++ (plan_text parts cert.plan ++ (bound_text cert.bound ++ count_text (length cert.tree)))))
