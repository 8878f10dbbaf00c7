-- The line of each item within its range is read as the item, whatever follows it.
use Rattle.std.proofs.Common.{◌≡◌, ℕ, ◌*◌, ◌^◌, ◌<◌, ◌≤◌, true, false, List, [], ◌∷◌, ◌++◌, ◌&&◌, length, map, Option, Some, None, Ok, refl, sym, ap, subst, ◌∙◌, arith, length-append, ℤ, pos, negsuc, suc, slice_get}
use Rattle.std.specs.Prelude.{codes, nat_le, unsigned_abs}
use Rattle.std.specs.List.{list_all}
use Rattle.std.specs.Fmt.{decimal, signed_decimal}
use Rattle.std.proofs.lemmas.Bool.{and_parts, false≢true, leb-true}
use Rattle.std.proofs.lemmas.Fmt.{length-decimal-le_wide}
use Rattle.std.proofs.lemmas.List.{length-map}
use Rattle.hex.specs.Hex.{encode_lower, lower_digits}
use Rattle.hex.proofs.HexLemmas.{length-encode_with}
use Rattle.flow_types.specs.declared.flight.Flight.{Flight}
use Rattle.flow_types.specs.declared.parts.Parts.{Parts}
use Rattle.flow_types.specs.declared.place.Place.{Place}
use Rattle.flow_types.specs.declared.plan.Stop.{Stop}
use Rattle.flow_types.specs.Limits.{most_name_bytes}
use Rattle.flow_types.specs.Words.{is_name, is_name_byte}
use Rattle.flow_types.specs.Valid.{IsScenario}
use Rattle.bytime_model.specs.declared.multiplier.Multiplier.{Multiplier}
use Rattle.bytime_model.specs.declared.names.RowName.{RowName}
use Rattle.bytime_model.specs.declared.names.RowName.TheVariants as row
use Rattle.cut_rows.specs.declared.names.CutName.{CutName}
use Rattle.cut_rows.specs.declared.names.CutName.TheVariants.{Apart, Departed, Heads}
use Rattle.certificate.specs.declared.item.CertItem.{CertItem}
use Rattle.certificate.specs.declared.item.CertItem.TheVariants as item
use Rattle.certificate.specs.declared.kind.LineKind.{LineKind}
use Rattle.certificate.specs.declared.kind.LineKind.TheVariants as kind
use Rattle.plan_text.specs.Lines.{place_name}
use Rattle.plan_text.proofs.TripsAgain.{is_flight, is_place, place_there}
use Rattle.flow_types.specs.Limits.{most_nodes}
use Rattle.flow_types.specs.Trips.{place_at}
use Rattle.certificate.specs.declared.stage.Stage.{Stage}
use Rattle.certificate.specs.declared.stage.Stage.TheVariants as stage
use Rattle.certificate.specs.Items.{item_of, name_at, trip_of}
use Rattle.certificate.specs.Reading.{read_from, with_item}
use Rattle.certificate.specs.Stages.{is_ended, may_stand, next_at, stage_after}
use Rattle.certificate.proofs.ReadBack.{line_reads}
use Rattle.certificate.proofs.TripsBack.{trip_back}
use Rattle.certificate.specs.ItemLines.{item_text, trip_fields}
use Rattle.certificate.specs.Kinds.{kind_of, word_of}
use Rattle.certificate.specs.Limits.{most_bound, most_cost, most_position}
use Rattle.certificate.specs.Lines.{bound_number, cut_fields, leaf_fields, line_of, row_fields, split_fields, stop_fields, whole_word}
use Rattle.certificate.specs.Ranges.{AreNodesInRange, AreStopsInRange, IsCutInRange, IsDigest, IsItemInRange, IsLeafInRange, IsMultiplierInRange, IsNodeTime, IsRowInRange, IsSplitInRange, IsTripInRange, IsWithinEither}
use Rattle.certificate.specs.Rows.{row_numbers, row_word}
use Rattle.certificate.proofs.CutsBack.{cut_back}
use Rattle.certificate.proofs.ItemsBack.{bare_back, bound_back, dual_back, end_back, from_second, head_back, lag_back, plan_back, row_back, split_back}
use Rattle.certificate.proofs.PlainFacts.{AreFields, IsField, after_commas, length_after, length_numbers, plain_decimal, plain_digest, plain_name, plain_signed}

abbrev pub kind_told : CertItem → LineKind
kind_told (item.Head digest) = kind.Head
kind_told (item.Cut cut) = kind.Cut
kind_told (item.Split flight node time cutoff) = kind.Split
kind_told item.Empty = kind.Empty
kind_told item.Unit = kind.Unit
kind_told (item.Dual weight rows) = kind.Dual
kind_told (item.Lag weight rows) = kind.Lag
kind_told (item.Row multiplier) = kind.Row
kind_told (item.Plan cost) = kind.Plan
kind_told (item.Trip stops) = kind.Trip
kind_told (item.Bound bound) = kind.Bound
kind_told (item.End nodes) = kind.End

-- the fields after the word; a trip is of the flight of this number
abbrev pub fields_told : Parts → ℕ → CertItem → List (List ℕ)
fields_told parts next (item.Head digest) = codes "1" ∷ encode_lower digest ∷ []
fields_told parts next (item.Cut cut) = cut_fields cut
fields_told parts next (item.Split flight node time cutoff) = split_fields flight node time cutoff
fields_told parts next item.Empty = []
fields_told parts next item.Unit = []
fields_told parts next (item.Dual weight rows) = leaf_fields weight rows
fields_told parts next (item.Lag weight rows) = leaf_fields weight rows
fields_told parts next (item.Row multiplier) = row_fields multiplier
fields_told parts next (item.Plan cost) = whole_word cost ∷ []
fields_told parts next (item.Trip stops) =
    trip_fields parts.places (slice_get parts.flights next) stops
fields_told parts next (item.Bound bound) = whole_word (bound_number bound) ∷ []
fields_told parts next (item.End nodes) = decimal nodes ∷ []

pub text_told : (parts : Parts) (next : ℕ) (is : CertItem)
    → item_text parts next is ≡ line_of (word_of (kind_told is)) (fields_told parts next is)
text_told parts next (item.Head digest) = refl
text_told parts next (item.Cut cut) = refl
text_told parts next (item.Split flight node time cutoff) = refl
text_told parts next item.Empty = refl
text_told parts next item.Unit = refl
text_told parts next (item.Dual weight rows) = refl
text_told parts next (item.Lag weight rows) = refl
text_told parts next (item.Row multiplier) = refl
text_told parts next (item.Plan cost) = refl
text_told parts next (item.Trip stops) = refl
text_told parts next (item.Bound bound) = refl
text_told parts next (item.End nodes) = refl

pub kind_back : (is : LineKind) → kind_of (word_of is) ≡ Some is
kind_back kind.Head = refl
kind_back kind.Cut = refl
kind_back kind.Split = refl
kind_back kind.Empty = refl
kind_back kind.Unit = refl
kind_back kind.Dual = refl
kind_back kind.Lag = refl
kind_back kind.Row = refl
kind_back kind.Plan = refl
kind_back kind.Trip = refl
kind_back kind.Bound = refl
kind_back kind.End = refl

pub word_field : (is : LineKind) → IsField 5 (word_of is)
word_field kind.Head = record { plain = refl; short = omega arith }
word_field kind.Cut = record { plain = refl; short = omega arith }
word_field kind.Split = record { plain = refl; short = omega arith }
word_field kind.Empty = record { plain = refl; short = omega arith }
word_field kind.Unit = record { plain = refl; short = omega arith }
word_field kind.Dual = record { plain = refl; short = omega arith }
word_field kind.Lag = record { plain = refl; short = omega arith }
word_field kind.Row = record { plain = refl; short = omega arith }
word_field kind.Plan = record { plain = refl; short = omega arith }
word_field kind.Trip = record { plain = refl; short = omega arith }
word_field kind.Bound = record { plain = refl; short = omega arith }
word_field kind.End = record { plain = refl; short = omega arith }

number_field : (n : ℕ) → n < 10 ^ 38 → IsField 39 (decimal n)
number_field n few =
    let wide : n < 10 ^ 64 = omega (arith, few) in
    let short = length-decimal-le_wide 38 n (omega arith) few wide in
    record { plain = plain_decimal n wide; short = omega (arith, short) }

signed_field : (z : ℤ) → unsigned_abs z < 10 ^ 38 → IsField 39 (signed_decimal z)
signed_field (pos n) few = number_field n few
signed_field (negsuc n) few =
    let short = length-decimal-le_wide 38 (suc n) (omega arith) few (omega (arith, few)) in
    record { plain = plain_signed (negsuc n) few; short = omega (arith, short) }

whole_field : (most : ℕ) (whole : Option ℤ) → most < 10 ^ 38 → IsWithinEither most whole
    → IsField 39 (whole_word whole)
whole_field most None few is = record { plain = refl; short = omega arith }
whole_field most (Some z) few is = signed_field z (omega (arith, few, is))

-- fields of a line that isn't too long
pub record AreTold (fields : List (List ℕ)) : Type 0 where
  pub longest : ℕ
  pub are : AreFields longest fields
  pub few : length (after_commas fields) ≤ 4000

of_numbers : (fields : List (List ℕ)) → AreFields 39 fields → length fields ≤ 100 → AreTold fields
of_numbers fields are few =
    let short = length_numbers fields are in
    record { longest = 39; are = are; few = omega (arith, short, few) }

head_told : (digest : List ℕ) → IsDigest digest → AreTold (codes "1" ∷ encode_lower digest ∷ [])
head_told digest is =
    let long = length-encode_with lower_digits digest in
    let size = is.size in
    let fields : AreFields 64 (codes "1" ∷ encode_lower digest ∷ []) = (
      record { plain = refl; short = omega arith },
      (record { plain = plain_digest digest is.bytes; short = omega (arith, long, size) }, tt),
    ) in
    let short = length_after (codes "1" ∷ encode_lower digest ∷ []) fields in
    record { longest = 64; are = fields; few = omega (arith, short) }

split_told : (flight node time : ℕ) (cutoff : Option ℤ) → IsSplitInRange flight node time cutoff
    → AreTold (split_fields flight node time cutoff)
split_told flight node time cutoff is =
    let a = is.at.at.flight_to in
    let b = is.at.at.node_to in
    let c = is.at.time_to in
    of_numbers (split_fields flight node time cutoff) (
      number_field flight (omega (arith, a)),
      (
        number_field node (omega (arith, b)),
        (
          number_field time (omega (arith, c)),
          (whole_field most_cost cutoff (omega arith) is.cutoff_to, tt),
        ),
      ),
    ) (omega arith)

leaf_told : (weight rows : ℕ) → IsLeafInRange weight rows → AreTold (leaf_fields weight rows)
leaf_told weight rows is =
    let a = is.weight_to in
    let b = is.rows_to in
    of_numbers (leaf_fields weight rows)
    (number_field weight (omega (arith, a)), (number_field rows (omega (arith, b)), tt))
    (omega arith)

whole_told : (most : ℕ) (whole : Option ℤ) → most < 10 ^ 38 → IsWithinEither most whole
    → AreTold (whole_word whole ∷ [])
whole_told most whole few is =
    of_numbers (whole_word whole ∷ []) (whole_field most whole few is, tt) (omega arith)

row_word_field : (name : RowName) → IsField 39 (row_word name)
row_word_field (row.Mono f n t) = record { plain = refl; short = omega arith }
row_word_field (row.Top f n) = record { plain = refl; short = omega arith }
row_word_field (row.Dep p t) = record { plain = refl; short = omega arith }
row_word_field (row.Arr p t) = record { plain = refl; short = omega arith }
row_word_field (row.Sector p t) = record { plain = refl; short = omega arith }
row_word_field (row.Occupy f n t) = record { plain = refl; short = omega arith }
row_word_field (row.Enter f n t) = record { plain = refl; short = omega arith }
row_word_field (row.Leave f n) = record { plain = refl; short = omega arith }
row_word_field (row.Connect c t) = record { plain = refl; short = omega arith }
row_word_field (row.Cut i) = record { plain = refl; short = omega arith }

node_time_told : (f n t : ℕ) (rest : List (List ℕ)) → IsNodeTime f n t → AreFields 39 rest
    → AreFields 39 (decimal f ∷ decimal n ∷ decimal t ∷ rest)
node_time_told f n t rest is are =
    let a = is.at.flight_to in
    let b = is.at.node_to in
    let c = is.time_to in (
      number_field f (omega (arith, a)),
      (number_field n (omega (arith, b)), (number_field t (omega (arith, c)), are)),
    )

pair_told : (a b most : ℕ) (rest : List (List ℕ)) → a ≤ most_position → b ≤ most
    → most < 10 ^ 38 → AreFields 39 rest → AreFields 39 (decimal a ∷ decimal b ∷ rest)
pair_told a b most rest first second few are =
    (number_field a (omega (arith, first)), (number_field b (omega (arith, second, few)), are))

name_told : (name : RowName) (rest : List (List ℕ)) → IsRowInRange name → AreFields 39 rest
    → AreFields 39 (map decimal (row_numbers name) ++ rest)
name_told (row.Mono f n t) rest is are = node_time_told f n t rest is are
name_told (row.Top f n) rest is are =
    pair_told f n 65535 rest is.flight_to is.node_to (omega arith) are
name_told (row.Dep p t) rest is are =
    pair_told p t 511 rest is.place_to is.period_to (omega arith) are
name_told (row.Arr p t) rest is are =
    pair_told p t 511 rest is.place_to is.period_to (omega arith) are
name_told (row.Sector p t) rest is are =
    pair_told p t 511 rest is.place_to is.period_to (omega arith) are
name_told (row.Occupy f n t) rest is are = node_time_told f n t rest is are
name_told (row.Enter f n t) rest is are = node_time_told f n t rest is are
name_told (row.Leave f n) rest is are =
    pair_told f n 65535 rest is.flight_to is.node_to (omega arith) are
name_told (row.Connect c t) rest is are =
    pair_told c t 511 rest is.place_to is.period_to (omega arith) are
name_told (row.Cut i) rest is are = (number_field i (omega (arith, is)), are)

few_numbers : (name : RowName) (field : List ℕ)
    → length (map decimal (row_numbers name) ++ field ∷ []) ≤ 4
few_numbers (row.Mono f n t) field = omega arith
few_numbers (row.Top f n) field = omega arith
few_numbers (row.Dep p t) field = omega arith
few_numbers (row.Arr p t) field = omega arith
few_numbers (row.Sector p t) field = omega arith
few_numbers (row.Occupy f n t) field = omega arith
few_numbers (row.Enter f n t) field = omega arith
few_numbers (row.Leave f n) field = omega arith
few_numbers (row.Connect c t) field = omega arith
few_numbers (row.Cut i) field = omega arith

row_told : (multiplier : Multiplier) → IsMultiplierInRange multiplier
    → AreTold (row_fields multiplier)
row_told multiplier is =
    let to = is.to in
    let few = few_numbers multiplier.row (decimal multiplier.value) in
    of_numbers (row_fields multiplier) (
      row_word_field multiplier.row,
      name_told multiplier.row (decimal multiplier.value ∷ []) is.name
          (number_field multiplier.value (omega (arith, to)), tt),
    ) (omega (arith, few))

nodes_told : (nodes : List ℕ) → AreNodesInRange nodes → AreFields 39 (map decimal nodes)
nodes_told [] are = tt
nodes_told (node ∷ nodes) are =
    let to = are.0 in (number_field node (omega (arith, to)), nodes_told nodes are.1)

cut_told : (cut : CutName) → IsCutInRange cut → AreTold (cut_fields cut)
cut_told (Heads f n t heads) is =
    let few = is.heads_in.few in
    of_numbers (cut_fields (Heads f n t heads)) (
      record { plain = refl; short = omega arith },
      node_time_told f n t (map decimal heads) is.at (nodes_told heads is.heads_in.each),
    ) (omega (arith, length-map heads decimal, few))
cut_told (Apart f t nodes) is =
    let few = is.nodes_in.few in
    of_numbers (cut_fields (Apart f t nodes)) (
      record { plain = refl; short = omega arith },
      pair_told f t 511 (map decimal nodes) is.at.place_to is.at.period_to (omega arith)
          (nodes_told nodes is.nodes_in.each),
    ) (omega (arith, length-map nodes decimal, few))
cut_told (Departed f n t) is =
    of_numbers (cut_fields (Departed f n t)) (
      record { plain = refl; short = omega arith },
      node_time_told f n t [] is tt,
    ) (omega arith)

name_field : (name : List ℕ) → is_name name ≡ true → IsField 39 name
name_field name is =
    let outer = and_parts (nat_le 1 (length name) && nat_le (length name) most_name_bytes)
    (list_all is_name_byte name) is in
    let inner = and_parts (nat_le 1 (length name)) (nat_le (length name) most_name_bytes)
    outer.0 in
    let short = leb-true (length name) most_name_bytes inner.1 in
    record { plain = plain_name name outer.1; short = omega (arith, short) }

length_stops : (places : List Place) (flight : Flight) (stops : List Stop)
    → length (stop_fields places flight stops) ≡ 2 * length stops
length_stops places flight [] = refl
length_stops places flight (stop ∷ stops) = omega (arith, length_stops places flight stops)

goes_on : (now : Stage) (is : LineKind) → may_stand now is ≡ true → is_ended now ≡ false
goes_on stage.Head is may = refl
goes_on (stage.Pool last) is may = refl
goes_on (stage.Tree waiting) is may = refl
goes_on (stage.Rows left last waiting) is may = refl
goes_on stage.Plan is may = refl
goes_on (stage.Trips next) is may = refl
goes_on stage.Bound is may = refl
goes_on stage.End is may = refl
goes_on stage.Ended is may = absurd (false≢true may)

module _ (parts : Parts) (valid : IsScenario parts) where
  module _ (k : ℕ) (flight : Flight) (there : slice_get parts.flights k ≡ Some flight) where
    stops_told : (stops : List Stop) → AreStopsInRange flight stops
        → AreFields 39 (stop_fields parts.places flight stops)
    stops_told [] are = tt
    stops_told (stop ∷ stops) are =
        let to = are.0.time_to in
        let found = place_there parts.day.periods parts.places parts.tables flight
        (is_flight parts valid k flight there) stop.node are.0.node_to in
        let named : IsField 39 (name_at parts.places (place_at flight stop.node)) =
        subst (λ (p : Option Place). IsField 39 (place_name p)) (sym found.1)
        (name_field found.0.name
        (is_place parts valid k flight there (place_at flight stop.node) found.0 found.1).name) in
        (named, (number_field stop.time (omega (arith, to)), stops_told stops are.1))

    trip_told : (trip : List Stop) → AreStopsInRange flight trip → length trip ≤ most_nodes
        → AreTold (flight.name ∷ stop_fields parts.places flight trip)
    trip_told trip are few =
        of_numbers (flight.name ∷ stop_fields parts.places flight trip)
        (name_field flight.name (is_flight parts valid k flight there).name, stops_told trip are)
        (omega (arith, length_stops parts.places flight trip, few))

  any_trip_told : (k : ℕ) (found : Option Flight) (trip : List Stop)
      → slice_get parts.flights k ≡ found → IsTripInRange found trip
      → AreTold (trip_fields parts.places found trip)
  any_trip_told k None trip there is = absurd is
  any_trip_told k (Some flight) trip there is = trip_told k flight there trip is.0 is.1

  any_trip_back : (k : ℕ) (found : Option Flight) (trip : List Stop)
      → slice_get parts.flights k ≡ found → IsTripInRange found trip
      → trip_of parts.places found (from_second (trip_fields parts.places found trip))
      ≡ Ok (item.Trip trip)
  any_trip_back k None trip there is = absurd is
  any_trip_back k (Some flight) trip there is =
      trip_back parts valid k flight there trip is.0 is.1

  item_told : (next : ℕ) (is : CertItem) → IsItemInRange parts next is
      → AreTold (fields_told parts next is)
  item_told next (item.Head digest) range = head_told digest range
  item_told next (item.Cut cut) range = cut_told cut range
  item_told next (item.Split flight node time cutoff) range =
      split_told flight node time cutoff range
  item_told next item.Empty range = of_numbers [] tt (omega arith)
  item_told next item.Unit range = of_numbers [] tt (omega arith)
  item_told next (item.Dual weight rows) range = leaf_told weight rows range
  item_told next (item.Lag weight rows) range = leaf_told weight rows range
  item_told next (item.Row multiplier) range = row_told multiplier range
  item_told next (item.Plan cost) range = whole_told most_cost cost (omega arith) range
  item_told next (item.Trip stops) range =
      any_trip_told next (slice_get parts.flights next) stops refl range
  item_told next (item.Bound bound) range =
      whole_told most_bound (bound_number bound) (omega arith) range
  item_told next (item.End nodes) range =
      let to = range.to in
      of_numbers (decimal nodes ∷ []) (number_field nodes (omega (arith, to)), tt) (omega arith)

  item_back : (next : ℕ) (is : CertItem) → IsItemInRange parts next is
      → item_of parts next (kind_told is) (from_second (fields_told parts next is)) ≡ Ok is
  item_back next (item.Head digest) range = head_back digest range
  item_back next (item.Cut cut) range = cut_back cut range
  item_back next (item.Split flight node time cutoff) range =
      split_back flight node time cutoff range
  item_back next item.Empty range = bare_back item.Empty
  item_back next item.Unit range = bare_back item.Unit
  item_back next (item.Dual weight rows) range = dual_back weight rows range
  item_back next (item.Lag weight rows) range = lag_back weight rows range
  item_back next (item.Row multiplier) range = row_back multiplier range
  item_back next (item.Plan cost) range = plan_back cost range
  item_back next (item.Trip stops) range =
      any_trip_back next (slice_get parts.flights next) stops refl range
  item_back next (item.Bound bound) range = bound_back bound range
  item_back next (item.End nodes) range = end_back nodes range

  pub item_reads : (now after : Stage) (is : CertItem) (more : List ℕ)
      → IsItemInRange parts (next_at now) is → may_stand now (kind_told is) ≡ true
      → stage_after parts now is ≡ Ok after
      → read_from parts now (item_text parts (next_at now) is ++ more)
      ≡ with_item is (read_from parts after more)
  item_reads now after is more range may next =
      let told = item_told (next_at now) is range in
      let few = told.few in
      let word = word_field (kind_told is) in
      let short = word.short in
      ap (λ (text : List ℕ). read_from parts now (text ++ more)) (text_told parts (next_at now) is)
      ∙ line_reads parts now after is told.longest (word_of (kind_told is))
      (fields_told parts (next_at now) is) (kind_told is) more
      (record {
        goes_on = goes_on now (kind_told is) may;
        plain = word.plain;
        are = told.are;
        short = omega (
          arith,
          few,
          short,
          length-append (word_of (kind_told is))
              (after_commas (fields_told parts (next_at now) is)),
        );
        kind_is = kind_back (kind_told is);
        may = may;
        told = item_back (next_at now) is range;
        next = next;
      })
