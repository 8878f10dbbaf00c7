-- What the fields of a line tell, after the word of its kind.
use Rattle.std.specs.Prelude.{ℕ, zero, suc, Bool, false, true, List, [], ◌∷◌, Option, None, Some, Result, Ok, Err, position, slice_get, if◌then◌else◌}
use Rattle.std.specs.Str.{bytes_eq}
use Rattle.text_records.specs.Errors.{◌>>=◌}
use Rattle.flow_types.specs.declared.flight.Flight.{Flight}
use Rattle.flow_types.specs.declared.parts.Parts.{Parts}
use Rattle.flow_types.specs.declared.place.Place.{Place}
use Rattle.flow_types.specs.declared.plan.Stop.{Stop}
use Rattle.flow_types.specs.Bounds.{bound_of}
use Rattle.flow_types.specs.Limits.{most_nodes}
use Rattle.plan_text.specs.Lines.{place_name}
use Rattle.certificate.specs.declared.fault.LineFault.{LineFault}
use Rattle.certificate.specs.declared.item.CertItem.{CertItem}
use Rattle.certificate.specs.declared.item.CertItem.TheVariants as item
use Rattle.certificate.specs.declared.kind.LineKind.{LineKind}
use Rattle.certificate.specs.declared.kind.LineKind.TheVariants as kind
use Rattle.certificate.specs.Cuts.{cut_name_from}
use Rattle.certificate.specs.Digests.{digest_of_word}
use Rattle.certificate.specs.Fields.{FieldsLeft, bad, end_of_line, field_from, is_nil, number_from, whole_from}
use Rattle.certificate.specs.Limits.{most_bound, most_cost, most_node, most_period, most_position, most_rows, most_tree_nodes, most_weight}
use Rattle.certificate.specs.Rows.{name_from}
use Rattle.certificate.specs.Stages.{is_cut}

-- the version, which is 1, and the digest of the day's text
abbrev pub digest_or_bad : ℕ → Option (List ℕ) → Result (List ℕ) LineFault
digest_or_bad number None = Err (bad number)
digest_or_bad number (Some bytes) = Ok bytes

unfoldable pub head_of : FieldsLeft → Result CertItem LineFault
head_of left = do
  version ← number_from 1 1 left
  word ← field_from version.1
  digest ← digest_or_bad version.1.number (digest_of_word word.0)
  ended ← end_of_line word.1
  Ok (item.Head digest)

-- a cut, by the word of its family. Whether there is one isn't asked.
unfoldable pub cut_of : FieldsLeft → Result CertItem LineFault
cut_of left = do
  family ← field_from left
  name ← cut_name_from family.0 family.1
  ended ← end_of_line name.1
  Ok (item.Cut name.0)

unfoldable pub split_of : FieldsLeft → Result CertItem LineFault
split_of left = do
  flight ← number_from 0 most_position left
  node ← number_from 0 most_node flight.1
  time ← number_from 0 most_period node.1
  cutoff ← whole_from most_cost time.1
  ended ← end_of_line cutoff.1
  Ok (item.Split flight.0 node.0 time.0 cutoff.0)

-- the weight of a leaf, and how many rows follow
unfoldable pub leaf_of : FieldsLeft → Result (ℕ × ℕ) LineFault
leaf_of left = do
  weight ← number_from 0 most_weight left
  rows ← number_from 0 most_rows weight.1
  ended ← end_of_line rows.1
  Ok (weight.0, rows.0)

unfoldable pub dual_of : FieldsLeft → Result CertItem LineFault
dual_of left = do
  leaf ← leaf_of left
  Ok (item.Dual leaf.0 leaf.1)

unfoldable pub lag_of : FieldsLeft → Result CertItem LineFault
lag_of left = do
  leaf ← leaf_of left
  Ok (item.Lag leaf.0 leaf.1)

-- a row of a leaf, and its multiplier
unfoldable pub row_of : FieldsLeft → Result CertItem LineFault
row_of left = do
  word ← field_from left
  name ← name_from word.0 word.1
  value ← number_from 1 most_weight name.1
  ended ← end_of_line value.1
  Ok (item.Row (record { row = name.0; value = value.0 }))

unfoldable pub plan_of : FieldsLeft → Result CertItem LineFault
plan_of left = do
  cost ← whole_from most_cost left
  ended ← end_of_line cost.1
  Ok (item.Plan cost.0)

-- the first of these nodes whose place has the name
abbrev pub name_at : List Place → ℕ → List ℕ
name_at places at = place_name (slice_get places at)

abbrev pub node_called : List Place → List ℕ → List ℕ → Option ℕ
node_called places nodes name = position (λ at. bytes_eq (name_at places at) name) nodes

abbrev pub node_or_bad : ℕ → Option ℕ → Result ℕ LineFault
node_or_bad number None = Err (bad number)
node_or_bad number (Some node) = Ok node

unfoldable pub stop_from : List Place → List ℕ → FieldsLeft → Result (Stop × FieldsLeft) LineFault
stop_from places nodes left = do
  name ← field_from left
  node ← node_or_bad left.number (node_called places nodes name.0)
  time ← number_from 0 most_period name.1
  Ok (record { node = node; time = time.0 }, time.1)

-- pairs of a place and a period, at most so many
unfoldable pub stops_from : List Place → List ℕ → ℕ → FieldsLeft → Result (List Stop) LineFault
stops_from places nodes zero left = end_of_line left >>= λ ended. Ok []
stops_from places nodes (suc most) left =
    if is_nil left.fields then Ok []
    else (stop_from places nodes left >>= λ stop.
    stops_from places nodes most stop.1 >>= λ stops. Ok (stop.0 ∷ stops))

-- the trip of a flight, which has to be of its name
abbrev pub same_name : List ℕ → List ℕ → Result (Unit {0}) LineFault
same_name name word = if bytes_eq word name then Ok tt else Err (bad 2)

unfoldable pub trip_for : List Place → Flight → FieldsLeft → Result CertItem LineFault
trip_for places flight left = do
  name ← field_from left
  same ← same_name flight.name name.0
  stops ← stops_from places flight.nodes most_nodes name.1
  Ok (item.Trip stops)

abbrev pub trip_of : List Place → Option Flight → FieldsLeft → Result CertItem LineFault
trip_of places None left = Err (bad 2)
trip_of places (Some flight) left = trip_for places flight left

unfoldable pub bound_line : FieldsLeft → Result CertItem LineFault
bound_line left = do
  bound ← whole_from most_bound left
  ended ← end_of_line bound.1
  Ok (item.Bound (bound_of bound.0))

unfoldable pub end_line : FieldsLeft → Result CertItem LineFault
end_line left = do
  nodes ← number_from 1 most_tree_nodes left
  ended ← end_of_line nodes.1
  Ok (item.End nodes.0)

-- a line that is its word alone
unfoldable pub bare_line : CertItem → FieldsLeft → Result CertItem LineFault
bare_line is left = do
  ended ← end_of_line left
  Ok is

-- a line of this kind that is neither a trip's nor a cut's
abbrev pub plain_item : LineKind → FieldsLeft → Result CertItem LineFault
plain_item kind.Head left = head_of left
plain_item kind.Cut left = Err (bad 1)
plain_item kind.Split left = split_of left
plain_item kind.Empty left = bare_line item.Empty left
plain_item kind.Unit left = bare_line item.Unit left
plain_item kind.Dual left = dual_of left
plain_item kind.Lag left = lag_of left
plain_item kind.Row left = row_of left
plain_item kind.Plan left = plan_of left
plain_item kind.Trip left = Err (bad 1)
plain_item kind.Bound left = bound_line left
plain_item kind.End left = end_line left

abbrev pub is_trip : LineKind → Bool
is_trip kind.Trip = true
is_trip other = false

-- a line of this kind; a trip is of the flight of this number
abbrev pub item_of : Parts → ℕ → LineKind → FieldsLeft → Result CertItem LineFault
item_of parts next kind left =
    if is_trip kind then trip_of parts.places (slice_get parts.flights next) left
    else if is_cut kind then cut_of left
    else plain_item kind left
