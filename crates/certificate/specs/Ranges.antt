-- How large the numbers of a line may be.
use Rattle.std.specs.Prelude.{◌≡◌, ℕ, ◌<◌, ◌≤◌, List, [], ◌∷◌, length, Option, None, Some, ℤ, slice_get, unsigned_abs}
use Rattle.hex.specs.Hex.{IsBytes}
use Rattle.flow_types.specs.declared.flight.Flight.{Flight}
use Rattle.flow_types.specs.declared.parts.Parts.{Parts}
use Rattle.flow_types.specs.declared.plan.Stop.{Stop}
use Rattle.flow_types.specs.Limits.{most_nodes}
use Rattle.bytime_model.specs.declared.multiplier.Multiplier.{Multiplier}
use Rattle.bytime_model.specs.declared.names.RowName.{RowName}
use Rattle.bytime_model.specs.declared.names.RowName.TheVariants as row
use Rattle.cut_rows.specs.declared.names.CutName.{CutName}
use Rattle.cut_rows.specs.declared.names.CutName.TheVariants.{Apart, Departed, Heads}
use Rattle.certificate.specs.declared.item.CertItem.{CertItem}
use Rattle.certificate.specs.declared.item.CertItem.TheVariants as item
use Rattle.certificate.specs.Digests.{digest_size}
use Rattle.certificate.specs.Limits.{most_bound, most_cost, most_heads, most_node, most_period, most_position, most_rows, most_tree_nodes, most_weight}
use Rattle.certificate.specs.Lines.{bound_number}

pub record IsDigest (digest : List ℕ) : Type 0 where
  pub size : length digest ≡ digest_size
  pub bytes : IsBytes digest

-- a place, a connection or a flight, and a period
pub record IsPlaceTime (place period : ℕ) : Type 0 where
  pub place_to : place ≤ most_position
  pub period_to : period ≤ most_period

pub record IsNodeOf (flight node : ℕ) : Type 0 where
  pub flight_to : flight ≤ most_position
  pub node_to : node ≤ most_node

pub record IsNodeTime (flight node time : ℕ) : Type 0 where
  pub at : IsNodeOf flight node
  pub time_to : time ≤ most_period

abbrev pub IsRowInRange : RowName → Type 0
IsRowInRange (row.Mono f n t) = IsNodeTime f n t
IsRowInRange (row.Top f n) = IsNodeOf f n
IsRowInRange (row.Dep p t) = IsPlaceTime p t
IsRowInRange (row.Arr p t) = IsPlaceTime p t
IsRowInRange (row.Sector p t) = IsPlaceTime p t
IsRowInRange (row.Occupy f n t) = IsNodeTime f n t
IsRowInRange (row.Enter f n t) = IsNodeTime f n t
IsRowInRange (row.Leave f n) = IsNodeOf f n
IsRowInRange (row.Connect c t) = IsPlaceTime c t
IsRowInRange (row.Cut i) = i ≤ most_position

abbrev pub AreNodesInRange : List ℕ → Type 0
AreNodesInRange [] = Unit {0}
AreNodesInRange (node ∷ nodes) = (node ≤ most_node) × AreNodesInRange nodes

-- so many nodes at least, and at most so many
pub record IsListInRange (least most : ℕ) (nodes : List ℕ) : Type 0 where
  pub each : AreNodesInRange nodes
  pub enough : least ≤ length nodes
  pub few : length nodes ≤ most

pub record IsHeadsInRange (flight node time : ℕ) (heads : List ℕ) : Type 0 where
  pub at : IsNodeTime flight node time
  pub heads_in : IsListInRange 1 most_heads heads

pub record IsApartInRange (flight time : ℕ) (nodes : List ℕ) : Type 0 where
  pub at : IsPlaceTime flight time
  pub nodes_in : IsListInRange 2 most_nodes nodes

abbrev pub IsCutInRange : CutName → Type 0
IsCutInRange (Heads f n t heads) = IsHeadsInRange f n t heads
IsCutInRange (Apart f t nodes) = IsApartInRange f t nodes
IsCutInRange (Departed f n t) = IsNodeTime f n t

-- no further from 0 than this, where there is a number
abbrev pub IsWithinEither : ℕ → Option ℤ → Type 0
IsWithinEither most None = Unit {0}
IsWithinEither most (Some z) = unsigned_abs z ≤ most

pub record IsSplitInRange (flight node time : ℕ) (cutoff : Option ℤ) : Type 0 where
  pub at : IsNodeTime flight node time
  pub cutoff_to : IsWithinEither most_cost cutoff

pub record IsLeafInRange (weight rows : ℕ) : Type 0 where
  pub weight_to : weight ≤ most_weight
  pub rows_to : rows ≤ most_rows

pub record IsMultiplierInRange (multiplier : Multiplier) : Type 0 where
  pub name : IsRowInRange multiplier.row
  pub from : 1 ≤ multiplier.value
  pub to : multiplier.value ≤ most_weight

pub record IsStopInRange (flight : Flight) (stop : Stop) : Type 0 where
  pub node_to : stop.node < length flight.nodes
  pub time_to : stop.time ≤ most_period

abbrev pub AreStopsInRange : Flight → List Stop → Type 0
AreStopsInRange flight [] = Unit {0}
AreStopsInRange flight (stop ∷ stops) = IsStopInRange flight stop × AreStopsInRange flight stops

abbrev pub IsTripInRange : Option Flight → List Stop → Type 0
IsTripInRange None stops = ⊥
IsTripInRange (Some flight) stops = AreStopsInRange flight stops × (length stops ≤ most_nodes)

pub record IsCountInRange (nodes : ℕ) : Type 0 where
  pub from : 1 ≤ nodes
  pub to : nodes ≤ most_tree_nodes

-- a trip is of the flight of this number
abbrev pub IsItemInRange : Parts → ℕ → CertItem → Type 0
IsItemInRange parts next (item.Head digest) = IsDigest digest
IsItemInRange parts next (item.Cut cut) = IsCutInRange cut
IsItemInRange parts next (item.Split flight node time cutoff) =
    IsSplitInRange flight node time cutoff
IsItemInRange parts next item.Empty = Unit {0}
IsItemInRange parts next item.Unit = Unit {0}
IsItemInRange parts next (item.Dual weight rows) = IsLeafInRange weight rows
IsItemInRange parts next (item.Lag weight rows) = IsLeafInRange weight rows
IsItemInRange parts next (item.Row multiplier) = IsMultiplierInRange multiplier
IsItemInRange parts next (item.Plan cost) = IsWithinEither most_cost cost
IsItemInRange parts next (item.Trip stops) = IsTripInRange (slice_get parts.flights next) stops
IsItemInRange parts next (item.Bound bound) = IsWithinEither most_bound (bound_number bound)
IsItemInRange parts next (item.End nodes) = IsCountInRange nodes
