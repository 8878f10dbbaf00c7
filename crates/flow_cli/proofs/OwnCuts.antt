-- The cuts of a pool are within the limits of lines, in lines of at most 180 bytes.
use Rattle.std.proofs.Common.{◌≡◌, ℕ, suc, ◌+◌, ◌*◌, ◌<◌, ◌≤◌, ◌&&◌, nat_le, nat_lt, true, List, [], ◌∷◌, length, map, All, AllPairs, Option, None, Some, slice_get, refl, subst, arith, length-append}
use Rattle.std.specs.Prelude.{codes}
use Rattle.std.specs.List.{list_all}
use Rattle.std.specs.Fmt.{decimal}
use Rattle.std.proofs.lemmas.Bool.{and_parts, leb-true, ltb-true}
use Rattle.std.proofs.lemmas.List.{append-nil}
use Rattle.std.proofs.lemmas.List.Elements.{All-nil, All-tail}
use Rattle.flow_types.specs.declared.flight.Flight.{Flight}
use Rattle.flow_types.specs.declared.flight.Leg.{Leg}
use Rattle.flow_types.specs.declared.parts.Parts.{Parts}
use Rattle.flow_types.specs.Routes.{IsLeg}
use Rattle.flow_types.specs.Valid.{IsScenario}
use Rattle.route_distances.specs.Walks.{legs_of}
use Rattle.time_windows.proofs.RootFacts.{flight_in}
use Rattle.bytime_model.specs.Rows.{is_node, node_count}
use Rattle.bytime_model.proofs.AllRowsFacts.{node_within, nodes_few}
use Rattle.bytime_model.proofs.NameLists.{Each, each_weaker}
use Rattle.cut_rows.specs.declared.names.CutName.{CutName}
use Rattle.cut_rows.specs.declared.names.CutName.TheVariants.{Apart, Departed, Heads}
use Rattle.cut_rows.specs.Cuts.{are_apart, are_heads, ascends_from, is_cut, is_head}
use Rattle.cut_rows.specs.Order.{IsBefore, follows_last}
use Rattle.cut_rows.proofs.NodeFacts.{head_within, heads_are, nodes_apart}
use Rattle.certificate.specs.Cuts.{cut_numbers, family_word}
use Rattle.certificate.specs.Lines.{cut_fields, fields_text, line_of}
use Rattle.certificate.specs.Ranges.{AreNodesInRange, IsCutInRange}
use Rattle.certificate.specs.Texts.{pool_text}
use Rattle.certificate.specs.Writable.{AreCutsWritable}
use Rattle.flow_cli.proofs.OwnRows.{flight_to, node_to, period_to, three_numbers}
use Rattle.flow_cli.proofs.OwnSizes.{field_to, line_size, numbers_to}

-- between a number and a bound
abbrev IsBetween : ℕ → ℕ → ℕ → Type 0
IsBetween low bound n = (low ≤ n) × (n < bound)

-- numbers in order are no more than there are
few_between : (low bound : ℕ) (nodes : List ℕ) → ascends_from low nodes ≡ true
    → Each (IsBetween 0 bound) nodes → low ≤ bound → low + length nodes ≤ bound
few_between low bound [] up each le = omega (arith, le)
few_between low bound (node ∷ nodes) up each le =
    let both = and_parts (nat_le low node) (ascends_from (node + 1) nodes) up in
    let above : low ≤ node = leb-true low node both.0 in
    let here = each.0.1 in
    let more = few_between (node + 1) bound nodes both.1 each.1 (omega (arith, here)) in
    omega (arith, above, more)

-- so are those of which none is 0
few_from_one : (bound : ℕ) (nodes : List ℕ) → ascends_from 0 nodes ≡ true
    → Each (IsBetween 1 bound) nodes → 1 ≤ bound → 1 + length nodes ≤ bound
few_from_one bound [] up each le = omega (arith, le)
few_from_one bound (node ∷ nodes) up each le =
    let from = each.0.0 in
    let here = each.0.1 in
    let both = and_parts (nat_le 0 node) (ascends_from (node + 1) nodes) up in
    let more = few_between (node + 1) bound nodes both.1
    (each_weaker (IsBetween 1 bound) (IsBetween 0 bound) nodes
    (λ n is. let to = is.1 in (omega arith, omega (arith, to))) each.1) (omega (arith, here)) in
    omega (arith, from, more)

in_range : (low : ℕ) (nodes : List ℕ) → Each (IsBetween low 32) nodes → AreNodesInRange nodes
in_range low [] each = tt
in_range low (node ∷ nodes) each =
    let here = each.0.1 in
    (omega (arith, here), in_range low nodes each.1)

small_nodes : (low : ℕ) (nodes : List ℕ) → Each (IsBetween low 32) nodes
    → Each (λ n. n < 10000) nodes
small_nodes low nodes each =
    each_weaker (IsBetween low 32) (λ n. n < 10000) nodes
    (λ n is. let to = is.1 in omega (arith, to)) each

-- the numbers of a cut are within the limits of its line, and are at most 34 of four digits
record IsSmallCut (cut : CutName) : Type 0 where
  range : IsCutInRange cut
  small : Each (λ n. n < 10000) (cut_numbers cut)
  few : length (cut_numbers cut) ≤ 34

-- a node with heads, which none of its flight's nodes is beyond
record AreHeadsWithin (count n : ℕ) (heads : List ℕ) : Type 0 where
  some : 0 < length heads
  node : n < count
  each : Each (IsBetween 1 count) heads
  up : ascends_from 0 heads ≡ true

each_head : (count : ℕ) (legs : List Leg) (n : ℕ) (heads : List ℕ) → All (IsLeg count) legs
    → list_all (is_head legs n) heads ≡ true
    → Each (λ head. (n < head) × (head < count)) heads
each_head count legs n [] network is = tt
each_head count legs n (head ∷ heads) network is =
    let both = and_parts (is_head legs n head) (list_all (is_head legs n) heads) is in (
      head_within count legs n head network both.0,
      each_head count legs n heads network both.1,
    )

first_past : (count n : ℕ) (heads : List ℕ) → 0 < length heads
    → Each (λ head. (n < head) × (head < count)) heads → n < count
first_past count n [] some each = absurd (omega (arith, some))
first_past count n (head ∷ heads) some each =
    let past = each.0.0 in
    let to = each.0.1 in
    omega (arith, past, to)

heads_within : (count : ℕ) (legs : List Leg) (n : ℕ) (heads : List ℕ) → All (IsLeg count) legs
    → are_heads legs n heads ≡ true → AreHeadsWithin count n heads
heads_within count legs n heads network is =
    let are = heads_are legs n heads is in
    let some = ltb-true 0 (length heads) (and_parts (nat_lt 0 (length heads))
    (ascends_from 0 heads && list_all (is_head legs n) heads) is).0 in
    let each = each_head count legs n heads network are.each in
    record {
      some = some;
      node = first_past count n heads some each;
      each = each_weaker (λ head. (n < head) × (head < count)) (IsBetween 1 count) heads
          (λ head is. let past = is.0 in
          let to = is.1 in (omega (arith, past), omega (arith, to))) each;
      up = are.up;
    }

module _ (parts : Parts) (valid : IsScenario parts) where
  network_of : (f : ℕ) (found : Option Flight) → slice_get parts.flights f ≡ found
      → All (IsLeg (node_count found)) (legs_of found)
  network_of f None is = All-nil (IsLeg 0)
  network_of f (Some flight) is = (flight_in parts f flight valid is).route.each_leg

  small_heads : (f n t : ℕ) (heads : List ℕ)
      → AreHeadsWithin (node_count (slice_get parts.flights f)) n heads
      → nat_lt t parts.day.periods ≡ true → IsSmallCut (Heads f n t heads)
  small_heads f n t heads are is =
      let nodes = nodes_few parts f valid in
      let each = each_weaker (IsBetween 1 (node_count (slice_get parts.flights f)))
      (IsBetween 1 32) heads (λ head own. let from = own.0 in
      let to = own.1 in (omega (arith, from), omega (arith, to, nodes))) are.each in
      let own = three_numbers parts valid f n t are.node is in
      let some = are.some in
      let few = few_from_one 32 heads are.up each (omega arith) in
      record {
        range = record {
          at = own.0;
          heads_in = record {
            each = in_range 1 heads each;
            enough = omega (arith, some);
            few = omega (arith, few);
          };
        };
        small = (own.1.0, (own.1.1.0, (own.1.1.1.0, small_nodes 1 heads each)));
        few = omega (arith, few);
      }

  each_node : (f : ℕ) (nodes : List ℕ)
      → list_all (is_node (slice_get parts.flights f)) nodes ≡ true → Each (IsBetween 0 32) nodes
  each_node f [] is = tt
  each_node f (node ∷ nodes) is =
      let both = and_parts (is_node (slice_get parts.flights f) node)
      (list_all (is_node (slice_get parts.flights f)) nodes) is in
      let here = node_to parts valid f node
      (node_within (slice_get parts.flights f) node both.0) in
      ((omega arith, here), each_node f nodes both.1)

  -- the flight of nodes that are apart
  apart_flight : (f : ℕ) (nodes : List ℕ) → 1 < length nodes
      → list_all (is_node (slice_get parts.flights f)) nodes ≡ true → f < 2000
  apart_flight f [] some is = absurd (omega (arith, some))
  apart_flight f (node ∷ nodes) some is =
      let both = and_parts (is_node (slice_get parts.flights f) node)
      (list_all (is_node (slice_get parts.flights f)) nodes) is in
      flight_to parts valid f node (node_within (slice_get parts.flights f) node both.0)

  small_apart : (f t : ℕ) (nodes : List ℕ) → are_apart (slice_get parts.flights f) nodes ≡ true
      → nat_lt t parts.day.periods ≡ true → IsSmallCut (Apart f t nodes)
  small_apart f t nodes are is =
      let own = nodes_apart (slice_get parts.flights f) nodes are in
      let some = ltb-true 1 (length nodes) (and_parts (nat_lt 1 (length nodes)) _ are).0 in
      let each = each_node f nodes own.there in
      let few = few_between 0 32 nodes own.up each (omega arith) in
      let flight = apart_flight f nodes some own.there in
      let time = period_to parts valid t is in
      record {
        range = record {
          at = record { place_to = omega (arith, flight); period_to = omega (arith, time) };
          nodes_in = record {
            each = in_range 0 nodes each;
            enough = omega (arith, some);
            few = omega (arith, few);
          };
        };
        small = (omega (arith, flight), (omega (arith, time), small_nodes 0 nodes each));
        few = omega (arith, few);
      }

  small_cut : (cut : CutName) → is_cut parts cut ≡ true → IsSmallCut cut
  small_cut (Heads f n t heads) is =
      let both = and_parts (nat_lt t parts.day.periods)
      (are_heads (legs_of (slice_get parts.flights f)) n heads) is in
      small_heads f n t heads (heads_within (node_count (slice_get parts.flights f))
      (legs_of (slice_get parts.flights f)) n heads
      (network_of f (slice_get parts.flights f) refl) both.1) both.0
  small_cut (Apart f t nodes) is =
      let both = and_parts (nat_lt t parts.day.periods) (are_apart (slice_get parts.flights f)
      nodes)
      is in
      small_apart f t nodes both.1 both.0
  small_cut (Departed f n t) is =
      let both = and_parts (nat_lt t parts.day.periods)
      (nat_lt 0 n && is_node (slice_get parts.flights f) n) is in
      let more = and_parts (nat_lt 0 n) (is_node (slice_get parts.flights f) n) both.1 in
      let own = three_numbers parts valid f n t
      (node_within (slice_get parts.flights f) n more.1) both.0 in
      record { range = own.0; small = own.1; few = omega arith }

  -- cuts of the day, after this one
  pub record AreShortCuts (last : Option CutName) (pool : List CutName) : Type 0 where
    pub writable : AreCutsWritable parts last pool
    pub short : length (pool_text pool) ≤ 180 * length pool

  cut_size : (cut : CutName) → IsSmallCut cut
      → length (line_of (codes "cut") (cut_fields cut)) ≤ 180
  cut_size cut is =
      let few = is.few in
      let numbers = subst (λ fields. length (fields_text fields) ≤ 5 * length (cut_numbers cut) + 1)
      (append-nil (map decimal (cut_numbers cut))) (numbers_to (cut_numbers cut) [] is.small) in
      let word = word_size cut in
      let all = field_to 2 (5 * length (cut_numbers cut) + 1) (family_word cut)
      (map decimal (cut_numbers cut)) (omega (arith, word)) (omega (arith, numbers)) in
      let line = line_size (codes "cut") (cut_fields cut) in
      omega (arith, few, all, line)
    where
      word_size : (cut : CutName) → length (family_word cut) ≤ 2
      word_size (Heads f n t heads) = omega arith
      word_size (Apart f t nodes) = omega arith
      word_size (Departed f n t) = omega arith

  -- the first of these cuts, if there is one, comes after this one
  abbrev IsNext : Option CutName → List CutName → Type 0
  IsNext last [] = Unit {0}
  IsNext last (cut ∷ pool) = follows_last last cut ≡ true

  any_first : (pool : List CutName) → IsNext None pool
  any_first [] = tt
  any_first (cut ∷ pool) = refl

  next_of : (cut : CutName) (pool : List CutName) → AllPairs IsBefore (cut ∷ pool)
      → IsNext (Some cut) pool
  next_of cut [] order = tt
  next_of cut (next ∷ pool) order = order 0 1 cut (omega arith) (omega arith)

  cuts_from : (pool : List CutName) (last : Option CutName) → IsNext last pool
      → All (λ cut. is_cut parts cut ≡ true) pool → AllPairs IsBefore pool
      → AreShortCuts last pool
  cuts_from [] last next are order = record { writable = tt; short = omega arith }
  cuts_from (cut ∷ pool) last next are order =
      let is : is_cut parts cut ≡ true = are 0 cut (omega arith) in
      let here = small_cut cut is in
      let more = cuts_from pool (Some cut) (next_of cut pool order)
      (All-tail (λ cut. is_cut parts cut ≡ true) cut pool are)
      (λ i j d less within. order (suc i) (suc j) d (omega (arith, less)) (omega (arith, within)))
      in
      let line = cut_size cut here in
      let behind = more.short in
      let all = length-append (line_of (codes "cut") (cut_fields cut)) (pool_text pool) in
      record {
        writable = ((here.range, next, is), more.writable);
        short = omega (arith, line, behind, all);
      }

  pub short_cuts : (pool : List CutName) → All (λ cut. is_cut parts cut ≡ true) pool
      → AllPairs IsBefore pool → AreShortCuts None pool
  short_cuts pool are order = cuts_from pool None (any_first pool) are order
