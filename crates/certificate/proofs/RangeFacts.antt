-- What is read of a leaf's line and of its rows is within its range.
use Rattle.std.proofs.Common.{◌≡◌, ℕ, ◌≤◌, Bool, true, false, List, length, Option, Some, None, Result, Ok, Err, refl, ap, subst}
use Rattle.std.specs.Prelude.{nat_le, nat_lt, ◌&&◌, slice_get}
use Rattle.std.proofs.lemmas.Bool.{and_parts, leb-true}
use Rattle.flow_types.specs.declared.flight.Flight.{Flight}
use Rattle.flow_types.specs.declared.parts.Parts.{Parts}
use Rattle.flow_types.specs.declared.place.Place.{Place}
use Rattle.flow_types.specs.Bounds.{bound_of}
use Rattle.flow_types.specs.Limits.{most_nodes}
use Rattle.certificate.specs.Cuts.{cut_name_from}
use Rattle.certificate.specs.Digests.{digest_of_word}
use Rattle.certificate.specs.Fields.{FieldsLeft, end_of_line, field_from, fields_of, number_from, whole_from, within}
use Rattle.certificate.specs.Items.{bare_line, bound_line, cut_of, digest_or_bad, dual_of, end_line, head_of, is_trip, item_of, lag_of, leaf_of, plain_item, plan_of, row_of, same_name, split_of, stops_from, trip_for, trip_of}
use Rattle.certificate.specs.Kinds.{kind_of}
use Rattle.certificate.specs.Limits.{most_bound, most_cost, most_line_bytes, most_node, most_period, most_position, most_rows, most_tree_nodes, most_weight}
use Rattle.certificate.specs.Numbers.{natural_of}
use Rattle.certificate.specs.Reading.{fields_step, kind_here, line_step, whole_line}
use Rattle.certificate.specs.Rows.{name_from}
use Rattle.certificate.specs.Stages.{is_cut, is_ended, next_at, stage_after}
use Rattle.certificate.specs.declared.fault.LineFault.{LineFault}
use Rattle.certificate.specs.declared.item.CertItem.{CertItem}
use Rattle.certificate.specs.declared.item.CertItem.TheVariants as item
use Rattle.certificate.specs.declared.kind.LineKind.{LineKind}
use Rattle.certificate.specs.declared.kind.LineKind.TheVariants as kind
use Rattle.certificate.specs.declared.stage.Stage.{Stage}
use Rattle.certificate.proofs.StageFacts.{bind_ok}

-- of a leaf's line, and of a row's
abbrev pub IsRanged : CertItem → Type 0
IsRanged (item.Dual weight rows) = (weight ≤ most_weight) × (rows ≤ most_rows)
IsRanged (item.Lag weight rows) = (weight ≤ most_weight) × (rows ≤ most_rows)
IsRanged (item.Row multiplier) = multiplier.value ≤ most_weight
IsRanged other = Unit {0}

number_or : ℕ → Result (ℕ × FieldsLeft) LineFault → ℕ
number_or other (Ok it) = it.0
number_or other (Err fault) = other

number_within : (low high : ℕ) (left rest : FieldsLeft) (n : ℕ)
    → number_from low high left ≡ Ok (n, rest) → n ≤ high
unfolding number_from number_or
number_within low high left rest n is =
    let found = bind_ok (field_from left) _ (n, rest) is in
    let told = bind_ok (within left.number low high (natural_of found.0.0)) _ (n, rest) found.2 in
    let same : told.0 ≡ n = ap (number_or n) told.2 in
    subst (λ (m : ℕ). m ≤ high) same (by (natural_of found.0.0) told.0 told.1)
  where
    if_within : (m k : ℕ) (b : Bool) → (nat_le low m && nat_le m high) ≡ b
        → within left.number low high (Some m) ≡ Ok k → k ≤ high
    if_within m k true both is_k =
        let same : m ≡ k = cc (rw both at is_k) in
        let parts = and_parts (nat_le low m) (nat_le m high) both in
        subst (λ (x : ℕ). x ≤ high) same (leb-true m high parts.1)
    if_within m k false both is_k = absurd (let e : ⊥ = cc (rw both at is_k) in e)

    by : (number : Option ℕ) (k : ℕ) → within left.number low high number ≡ Ok k → k ≤ high
    by None k is_k = absurd (let e : ⊥ = cc in e)
    by (Some m) k is_k = if_within m k (nat_le low m && nat_le m high) refl is_k

abbrev found : CertItem → Result CertItem LineFault
found it = Ok it

same_item : (a b : CertItem) → found a ≡ found b → a ≡ b
same_item a b is = cc

is_item : (a b : CertItem) → IsRanged a → found a ≡ found b → IsRanged b
is_item a b ranged is = subst IsRanged (same_item a b is) ranged

record IsLeaf (weight rows : ℕ) : Type 0 where
  weight_to : weight ≤ most_weight
  rows_to : rows ≤ most_rows

weight_or : ℕ → Result (ℕ × ℕ) LineFault → ℕ
weight_or other (Ok it) = it.0
weight_or other (Err fault) = other

rows_or : ℕ → Result (ℕ × ℕ) LineFault → ℕ
rows_or other (Ok it) = it.1
rows_or other (Err fault) = other

leaf_within : (left : FieldsLeft) (weight rows : ℕ) → leaf_of left ≡ Ok (weight, rows)
    → IsLeaf weight rows
unfolding leaf_of weight_or rows_or
leaf_within left weight rows is =
    let first = bind_ok (number_from 0 most_weight left) _ (weight, rows) is in
    let second = bind_ok (number_from 0 most_rows first.0.1) _ (weight, rows) first.2 in
    let ended = bind_ok (end_of_line second.0.1) _ (weight, rows) second.2 in
    let weight_is : first.0.0 ≡ weight = ap (weight_or weight) ended.2 in
    let rows_is : second.0.0 ≡ rows = ap (rows_or rows) ended.2 in
    record {
      weight_to = subst (λ (n : ℕ). n ≤ most_weight) weight_is
          (number_within 0 most_weight left first.0.1 first.0.0 first.1);
      rows_to = subst (λ (n : ℕ). n ≤ most_rows) rows_is
          (number_within 0 most_rows first.0.1 second.0.1 second.0.0 second.1);
    }

module _ (left : FieldsLeft) (it : CertItem) where
  head_ranged : head_of left ≡ Ok it → IsRanged it
  unfolding head_of
  head_ranged is =
      let version = bind_ok (number_from 1 1 left) _ it is in
      let word = bind_ok (field_from version.0.1) _ it version.2 in
      let digest =
      bind_ok (digest_or_bad version.0.1.number (digest_of_word word.0.0)) _ it word.2 in
      let ended = bind_ok (end_of_line word.0.1) _ it digest.2 in
      is_item (item.Head digest.0) it tt ended.2

  cut_ranged : cut_of left ≡ Ok it → IsRanged it
  unfolding cut_of
  cut_ranged is =
      let family = bind_ok (field_from left) _ it is in
      let name = bind_ok (cut_name_from family.0.0 family.0.1) _ it family.2 in
      let ended = bind_ok (end_of_line name.0.1) _ it name.2 in
      is_item (item.Cut name.0.0) it tt ended.2

  split_ranged : split_of left ≡ Ok it → IsRanged it
  unfolding split_of
  split_ranged is =
      let flight = bind_ok (number_from 0 most_position left) _ it is in
      let node = bind_ok (number_from 0 most_node flight.0.1) _ it flight.2 in
      let time = bind_ok (number_from 0 most_period node.0.1) _ it node.2 in
      let cutoff = bind_ok (whole_from most_cost time.0.1) _ it time.2 in
      let ended = bind_ok (end_of_line cutoff.0.1) _ it cutoff.2 in
      is_item (item.Split flight.0.0 node.0.0 time.0.0 cutoff.0.0) it tt ended.2

  bare_ranged : (bare : CertItem) → IsRanged bare → bare_line bare left ≡ Ok it → IsRanged it
  unfolding bare_line
  bare_ranged bare ranged is =
      let ended = bind_ok (end_of_line left) _ it is in
      is_item bare it ranged ended.2

  dual_ranged : dual_of left ≡ Ok it → IsRanged it
  unfolding dual_of
  dual_ranged is =
      let leaf = bind_ok (leaf_of left) _ it is in
      let within = leaf_within left leaf.0.0 leaf.0.1 leaf.1 in
      is_item (item.Dual leaf.0.0 leaf.0.1) it (within.weight_to, within.rows_to) leaf.2

  lag_ranged : lag_of left ≡ Ok it → IsRanged it
  unfolding lag_of
  lag_ranged is =
      let leaf = bind_ok (leaf_of left) _ it is in
      let within = leaf_within left leaf.0.0 leaf.0.1 leaf.1 in
      is_item (item.Lag leaf.0.0 leaf.0.1) it (within.weight_to, within.rows_to) leaf.2

  row_ranged : row_of left ≡ Ok it → IsRanged it
  unfolding row_of
  row_ranged is =
      let word = bind_ok (field_from left) _ it is in
      let name = bind_ok (name_from word.0.0 word.0.1) _ it word.2 in
      let value = bind_ok (number_from 1 most_weight name.0.1) _ it name.2 in
      let ended = bind_ok (end_of_line value.0.1) _ it value.2 in
      is_item (item.Row (record { row = name.0.0; value = value.0.0 })) it
      (number_within 1 most_weight name.0.1 value.0.1 value.0.0 value.1) ended.2

  plan_ranged : plan_of left ≡ Ok it → IsRanged it
  unfolding plan_of
  plan_ranged is =
      let cost = bind_ok (whole_from most_cost left) _ it is in
      let ended = bind_ok (end_of_line cost.0.1) _ it cost.2 in
      is_item (item.Plan cost.0.0) it tt ended.2

  bound_ranged : bound_line left ≡ Ok it → IsRanged it
  unfolding bound_line
  bound_ranged is =
      let bound = bind_ok (whole_from most_bound left) _ it is in
      let ended = bind_ok (end_of_line bound.0.1) _ it bound.2 in
      is_item (item.Bound (bound_of bound.0.0)) it tt ended.2

  end_ranged : end_line left ≡ Ok it → IsRanged it
  unfolding end_line
  end_ranged is =
      let nodes = bind_ok (number_from 1 most_tree_nodes left) _ it is in
      let ended = bind_ok (end_of_line nodes.0.1) _ it nodes.2 in
      is_item (item.End nodes.0.0) it tt ended.2

  trip_ranged : (places : List Place) (flight : Option Flight) → trip_of places flight left ≡ Ok it
      → IsRanged it
  unfolding trip_for
  trip_ranged places None is = absurd (let e : ⊥ = cc in e)
  trip_ranged places (Some flight) is =
      let name = bind_ok (field_from left) _ it is in
      let same = bind_ok (same_name flight.name name.0.0) _ it name.2 in
      let stops = bind_ok (stops_from places flight.nodes most_nodes name.0.1) _ it same.2 in
      is_item (item.Trip stops.0) it tt stops.2

  plain_ranged : (kind : LineKind) → plain_item kind left ≡ Ok it → IsRanged it
  plain_ranged kind.Head is = head_ranged is
  plain_ranged kind.Cut is = absurd (let e : ⊥ = cc in e)
  plain_ranged kind.Split is = split_ranged is
  plain_ranged kind.Empty is = bare_ranged item.Empty tt is
  plain_ranged kind.Unit is = bare_ranged item.Unit tt is
  plain_ranged kind.Dual is = dual_ranged is
  plain_ranged kind.Lag is = lag_ranged is
  plain_ranged kind.Row is = row_ranged is
  plain_ranged kind.Plan is = plan_ranged is
  plain_ranged kind.Trip is = absurd (let e : ⊥ = cc in e)
  plain_ranged kind.Bound is = bound_ranged is
  plain_ranged kind.End is = end_ranged is

  item_ranged : (parts : Parts) (next : ℕ) (kind : LineKind)
      → item_of parts next kind left ≡ Ok it → IsRanged it
  item_ranged parts next kind is = by (is_trip kind) refl (is_cut kind) refl
    where
      by : (a : Bool) → is_trip kind ≡ a → (b : Bool) → is_cut kind ≡ b → IsRanged it
      by true trip b cut =
          trip_ranged parts.places (slice_get parts.flights next) (rw trip at is)
      by false plain true cut = cut_ranged (rw (plain, cut) at is)
      by false plain false other = plain_ranged kind (rw (plain, other) at is)

item_in : CertItem → Result (CertItem × Stage) LineFault → CertItem
item_in other (Ok it) = it.0
item_in other (Err fault) = other

fields_ranged : (parts : Parts) (now after : Stage) (left : FieldsLeft) (it : CertItem)
    → fields_step parts now left ≡ Ok (it, after) → IsRanged it
unfolding fields_step item_in
fields_ranged parts now after left it is =
    let word = bind_ok (field_from left) _ (it, after) is in
    let kind = bind_ok (kind_here now (kind_of word.0.0)) _ (it, after) word.2 in
    let told = bind_ok (item_of parts (next_at now) kind.0 word.0.1) _ (it, after) kind.2 in
    let end = bind_ok (stage_after parts now told.0) _ (it, after) told.2 in
    let same : told.0 ≡ it = ap (item_in it) end.2 in
    subst IsRanged same (item_ranged word.0.1 told.0 parts (next_at now) kind.0 told.1)

-- what a line tells
pub line_ranged : (parts : Parts) (now after : Stage) (line : List ℕ) (it : CertItem)
    → line_step parts now line ≡ Ok (it, after) → IsRanged it
line_ranged parts now after line it is =
    by (is_ended now) refl (nat_lt most_line_bytes (length line)) refl
  where
    by : (ended : Bool) → is_ended now ≡ ended → (long : Bool)
        → nat_lt most_line_bytes (length line) ≡ long → IsRanged it
    by true is_end long is_long = absurd (let e : ⊥ = cc (rw is_end at is) in e)
    by false is_end true is_long = absurd (let e : ⊥ = cc (rw (is_end, is_long) at is) in e)
    by false is_end false is_long =
        fields_ranged parts now after (whole_line (fields_of line)) it (rw (is_end, is_long) at is)
