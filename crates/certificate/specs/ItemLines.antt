-- The line of each item, and the items of a certificate: what its text is read as.
use Rattle.std.specs.Prelude.{ℕ, List, [], ◌∷◌, ◌++◌, length, map, Option, None, Some, slice_get, codes}
use Rattle.flow_types.specs.declared.flight.Flight.{Flight}
use Rattle.flow_types.specs.declared.parts.Parts.{Parts}
use Rattle.flow_types.specs.declared.place.Place.{Place}
use Rattle.flow_types.specs.declared.plan.Stop.{Stop}
use Rattle.flow_types.specs.Costs.{plan_cost}
use Rattle.bytime_model.specs.declared.multiplier.Multiplier.{Multiplier}
use Rattle.cut_rows.specs.declared.names.CutName.{CutName}
use Rattle.branch_tree.specs.declared.leaf.Leaf.{Leaf as LeafKind}
use Rattle.branch_tree.specs.declared.leaf.Leaf.TheVariants as leaf
use Rattle.branch_tree.specs.declared.tree.TreeNode.{TreeNode}
use Rattle.branch_tree.specs.declared.tree.TreeNode.TheVariants.{Leaf, Split}
use Rattle.certificate.specs.declared.item.CertItem.{CertItem}
use Rattle.certificate.specs.declared.item.CertItem.TheVariants as item
use Rattle.certificate.specs.Lines.{cut_fields, leaf_fields, line_of, row_fields, split_fields, stop_fields, whole_word}
use Rattle.certificate.specs.Texts.{Certified, bound_text, count_text, head_text}

-- no fields where there is no such flight
abbrev pub trip_fields : List Place → Option Flight → List Stop → List (List ℕ)
trip_fields places None stops = []
trip_fields places (Some flight) stops = flight.name ∷ stop_fields places flight stops

-- a trip is of the flight of this number
abbrev pub item_text : Parts → ℕ → CertItem → List ℕ
item_text parts next (item.Head digest) = head_text digest
item_text parts next (item.Cut cut) = line_of (codes "cut") (cut_fields cut)
item_text parts next (item.Split flight node time cutoff) =
    line_of (codes "split") (split_fields flight node time cutoff)
item_text parts next item.Empty = line_of (codes "empty") []
item_text parts next item.Unit = line_of (codes "unit") []
item_text parts next (item.Dual weight rows) = line_of (codes "dual") (leaf_fields weight rows)
item_text parts next (item.Lag weight rows) = line_of (codes "lag") (leaf_fields weight rows)
item_text parts next (item.Row multiplier) = line_of (codes "y") (row_fields multiplier)
item_text parts next (item.Plan cost) = line_of (codes "plan") (whole_word cost ∷ [])
item_text parts next (item.Trip stops) =
    line_of (codes "trip") (trip_fields parts.places (slice_get parts.flights next) stops)
item_text parts next (item.Bound bound) = bound_text bound
item_text parts next (item.End nodes) = count_text nodes

abbrev pub pool_items : List CutName → List CertItem
pool_items pool = map (λ cut. item.Cut cut) pool

abbrev pub row_items : List Multiplier → List CertItem
row_items rows = map (λ multiplier. item.Row multiplier) rows

abbrev pub leaf_items : LeafKind → List CertItem
leaf_items leaf.Empty = item.Empty ∷ []
leaf_items leaf.Unit = item.Unit ∷ []
leaf_items (leaf.Dual weight rows) = item.Dual weight (length rows) ∷ row_items rows
leaf_items (leaf.Lag weight rows) = item.Lag weight (length rows) ∷ row_items rows

abbrev pub node_items : TreeNode → List CertItem
node_items (Leaf leaf) = leaf_items leaf
node_items (Split flight node time cutoff) = item.Split flight node time cutoff ∷ []

abbrev pub tree_items : List TreeNode → List CertItem
tree_items [] = []
tree_items (node ∷ nodes) = node_items node ++ tree_items nodes

abbrev pub trip_items : List (List Stop) → List CertItem
trip_items plan = map (λ trip. item.Trip trip) plan

-- the plan, and what it costs
abbrev pub plan_items : Parts → Option (List (List Stop)) → List CertItem
plan_items parts None = item.Plan None ∷ []
plan_items parts (Some plan) =
    item.Plan (Some (plan_cost parts.tables parts.flights plan)) ∷ trip_items plan

abbrev pub cert_items : Parts → Certified → List CertItem
cert_items parts cert =
    item.Head cert.digest ∷ (pool_items cert.pool ++ (tree_items cert.tree
    ++ (plan_items parts cert.plan ++ item.Bound cert.bound ∷ item.End (length cert.tree) ∷ [])))
