-- What holds of the names of each kind of rows: a new kind has its clause in each of the first
-- ones. The rest, the list and the order of all names, names no kind.
use Rattle.std.proofs.Common.{◌≡◌, ◌↔◌, ℕ, zero, suc, ◌+◌, ◌*◌, ◌==◌, ◌<◌, ◌≤◌, Bool, true, ◌&&◌, nat_lt, List, [], ◌∷◌, length, AllPairs, Some, slice_get, refl, sym, ap, ◌∙◌, subst, arith}
use Rattle.std.proofs.lemmas.Bool.{and_from, and_parts, eqb-true, lt-ltb, ltb-true}
use Rattle.std.proofs.lemmas.List.{length-append}
use Rattle.std.specs.List.{Any, range_with_len, sum_by}
use Rattle.flow_types.specs.declared.parts.Parts.{Parts}
use Rattle.flow_types.specs.declared.place.CapKind.{CapKind}
use Rattle.flow_types.specs.declared.place.CapKind.TheVariants as cap
use Rattle.flow_types.specs.Capacities.{has_kind}
use Rattle.flow_types.specs.Limits.{most_connections, most_nodes_in_all, most_periods, most_places}
use Rattle.flow_types.specs.Valid.{IsScenario}
use Rattle.flow_types.proofs.PlaceFacts.{has_kind-within}
use Rattle.bytime_model.specs.declared.names.NodeKind.{NodeKind}
use Rattle.bytime_model.specs.declared.names.NodeKind.TheVariants as node
use Rattle.bytime_model.specs.declared.names.RowKind.{RowKind}
use Rattle.bytime_model.specs.declared.names.RowKind.TheVariants as of
use Rattle.bytime_model.specs.declared.names.RowName.{RowName}
use Rattle.bytime_model.specs.declared.names.RowName.TheVariants.{Arr, Connect, Cut, Dep, Enter, Leave, Mono, Occupy, Sector, Top}
use Rattle.bytime_model.specs.AllRows.{kind_rows, kinds_rows, rows_of}
use Rattle.bytime_model.specs.Kinds.{SortKey, capacity_name, sort_key, name_at, node_thirds, part_count, rank, row_kinds, second_count, thirds}
use Rattle.bytime_model.specs.Order.{IsBefore}
use Rattle.bytime_model.specs.Rows.{goes_on, is_capacity, is_node, is_row, node_count}
use Rattle.bytime_model.specs.Values.{has_inside}
use Rattle.bytime_model.proofs.AllRowsFacts.{IsWithin, all_nodes, flight_within, goes_within, if_few, if_within, inside_within, is_node_within, kind_all, kind_has, most_rows, node_within, sum_few, within_if}
use Rattle.bytime_model.proofs.NameLists.{Each, any_first, any_second, ascending_pairs, each_any, each_append}
use Rattle.bytime_model.proofs.OrderFacts.{AreFrom, AreOf, kind_ascends, kind_then}

-- each kind stands in the list, at the position that the keys of its names have
listed : (kind : RowKind) → slice_get row_kinds (rank kind) ≡ Some kind
listed (of.Nodes node.Mono) = refl
listed (of.Nodes node.Top) = refl
listed (of.Places cap.Dep) = refl
listed (of.Places cap.Arr) = refl
listed (of.Places cap.Sector) = refl
listed (of.Nodes node.Occupy) = refl
listed (of.Nodes node.Enter) = refl
listed (of.Nodes node.Leave) = refl
listed of.Connections = refl

module _ (parts : Parts) where
  abbrev pub Is : RowName → Type 0
  Is name = is_row parts name ≡ true

  -- a name has the numbers that it is made of
  abbrev key : ℕ → ℕ → ℕ → ℕ → SortKey
  key k a b c = (k, a, b, c)

  no_third : (k a b c : ℕ) → c < 1 → key k a b 0 ≡ key k a b c
  no_third k a b c none = ap (key k a b) (omega (arith, none))

  keys : (kind : RowKind) (a b c : ℕ) → c < (thirds parts kind a b).to
      → sort_key (name_at kind a b c) ≡ key (rank kind) a b c
  keys (of.Nodes node.Mono) a b c to = refl
  keys (of.Nodes node.Top) a b c to = no_third 1 a b c to
  keys (of.Nodes node.Occupy) a b c to = refl
  keys (of.Nodes node.Enter) a b c to = refl
  keys (of.Nodes node.Leave) a b c to =
      no_third 7 a b c (within_if (goes_on (slice_get parts.flights a) b) 1 c to).1
  keys (of.Places cap.Dep) a b c to = no_third 2 a b c to
  keys (of.Places cap.Arr) a b c to = no_third 3 a b c to
  keys (of.Places cap.Sector) a b c to = no_third 4 a b c to
  keys of.Connections a b c to = no_third 8 a b c to

  -- where they are within those of its kind, there is a row
  capacity_is : (kind : CapKind) (p t : ℕ)
      → is_row parts (capacity_name kind p t) ≡ is_capacity parts kind p t
  capacity_is cap.Dep p t = refl
  capacity_is cap.Arr p t = refl
  capacity_is cap.Sector p t = refl

  row_is : (kind : RowKind) (a b c : ℕ) → IsWithin parts kind a b c → Is (name_at kind a b c)
  row_is (of.Nodes node.Mono) a b c within =
      and_from (is_node (slice_get parts.flights a) b) (nat_lt 0 c && nat_lt c parts.day.periods)
      (is_node_within (slice_get parts.flights a) b within.second)
      (and_from (nat_lt 0 c) (nat_lt c parts.day.periods)
      (lt-ltb 0 c (let from = within.from in omega (arith, from)))
      (lt-ltb c parts.day.periods within.to))
  row_is (of.Nodes node.Top) a b c within =
      is_node_within (slice_get parts.flights a) b within.second
  row_is (of.Nodes node.Occupy) a b c within =
      let has = within_if (has_inside (slice_get parts.flights a) b) parts.day.periods c within.to
      in
      and_from (has_inside (slice_get parts.flights a) b) (nat_lt c parts.day.periods) has.0
      (lt-ltb c parts.day.periods has.1)
  row_is (of.Nodes node.Enter) a b c within =
      let has = within_if (nat_lt 0 b) parts.day.periods c within.to in
      and_from (is_node (slice_get parts.flights a) b) (nat_lt 0 b && nat_lt c parts.day.periods)
      (is_node_within (slice_get parts.flights a) b within.second)
      (and_from (nat_lt 0 b) (nat_lt c parts.day.periods) has.0
      (lt-ltb c parts.day.periods has.1))
  row_is (of.Nodes node.Leave) a b c within =
      (within_if (goes_on (slice_get parts.flights a) b) 1 c within.to).0
  row_is (of.Places kind) a b c within =
      let has = within_if (has_kind kind (slice_get parts.places a)) parts.day.periods b
      within.second in
      capacity_is kind a b
      ∙ and_from (has_kind kind (slice_get parts.places a)) (nat_lt b parts.day.periods) has.0
      (lt-ltb b parts.day.periods has.1)
  row_is of.Connections a b c within =
      and_from (nat_lt a (length parts.connections)) (nat_lt b parts.day.periods)
      (lt-ltb a (length parts.connections) within.first)
      (lt-ltb b parts.day.periods within.second)

  -- each name of a row is so made
  abbrev Has : RowName → List RowName → Type 0
  Has name names = Any (λ other. other ≡ name) names

  of_node : (kind : NodeKind) (f n t : ℕ) → n < node_count (slice_get parts.flights f)
      → (node_thirds parts kind f n).from ≤ t → t < (node_thirds parts kind f n).to
      → IsWithin parts (of.Nodes kind) f n t
  of_node kind f n t is from to = record {
    first = flight_within parts.flights f n is;
    second = is;
    from = from;
    to = to;
  }

  of_place : (kind : CapKind) (p t : ℕ) → is_capacity parts kind p t ≡ true
      → IsWithin parts (of.Places kind) p t 0
  of_place kind p t is =
      let both = and_parts (has_kind kind (slice_get parts.places p)) (nat_lt t parts.day.periods)
      is in
      record {
        first = has_kind-within kind parts.places p both.0;
        second = if_within (has_kind kind (slice_get parts.places p)) parts.day.periods t both.0
            (ltb-true t parts.day.periods both.1);
        from = omega arith;
        to = omega arith;
      }

  module _ (there : (kind : RowKind) (a b c : ℕ) → IsWithin parts kind a b c
      → Has (name_at kind a b c) (rows_of parts)) where
    named : (name : RowName) → Is name → Has name (rows_of parts)
    named (Mono f n t) is =
        let found = and_parts (is_node (slice_get parts.flights f) n)
        (nat_lt 0 t && nat_lt t parts.day.periods) is in
        let time = and_parts (nat_lt 0 t) (nat_lt t parts.day.periods) found.1 in
        let past = ltb-true 0 t time.0 in
        there (of.Nodes node.Mono) f n t
        (of_node node.Mono f n t (node_within (slice_get parts.flights f) n found.0)
        (omega (arith, past)) (ltb-true t parts.day.periods time.1))
    named (Top f n) is =
        there (of.Nodes node.Top) f n 0
        (of_node node.Top f n 0 (node_within (slice_get parts.flights f) n is) (omega arith)
        (omega arith))
    named (Dep p t) is = there (of.Places cap.Dep) p t 0 (of_place cap.Dep p t is)
    named (Arr p t) is = there (of.Places cap.Arr) p t 0 (of_place cap.Arr p t is)
    named (Sector p t) is = there (of.Places cap.Sector) p t 0 (of_place cap.Sector p t is)
    named (Occupy f n t) is =
        let both = and_parts (has_inside (slice_get parts.flights f) n)
        (nat_lt t parts.day.periods) is in
        there (of.Nodes node.Occupy) f n t
        (of_node node.Occupy f n t (inside_within (slice_get parts.flights f) n both.0)
        (omega arith)
        (if_within (has_inside (slice_get parts.flights f) n) parts.day.periods t both.0
        (ltb-true t parts.day.periods both.1)))
    named (Enter f n t) is =
        let found = and_parts (is_node (slice_get parts.flights f) n)
        (nat_lt 0 n && nat_lt t parts.day.periods) is in
        let both = and_parts (nat_lt 0 n) (nat_lt t parts.day.periods) found.1 in
        there (of.Nodes node.Enter) f n t
        (of_node node.Enter f n t (node_within (slice_get parts.flights f) n found.0) (omega arith)
        (if_within (nat_lt 0 n) parts.day.periods t both.0
        (ltb-true t parts.day.periods both.1)))
    named (Leave f n) is =
        there (of.Nodes node.Leave) f n 0
        (of_node node.Leave f n 0 (goes_within (slice_get parts.flights f) n is) (omega arith)
        (if_within (goes_on (slice_get parts.flights f) n) 1 0 is (omega arith)))
    named (Connect c t) is =
        let both = and_parts (nat_lt c (length parts.connections)) (nat_lt t parts.day.periods) is
        in
        there of.Connections c t 0 (record {
          first = ltb-true c (length parts.connections) both.0;
          second = ltb-true t parts.day.periods both.1;
          from = omega arith;
          to = omega arith;
        })
    named (Cut i) is = absurd cc

-- how many pairs of a first and a second number a kind has at most, and third ones beside these
abbrev most_pairs : RowKind → ℕ
most_pairs (of.Nodes kind) = most_nodes_in_all
most_pairs (of.Places kind) = most_places * most_periods
most_pairs of.Connections = most_connections * most_periods

abbrev most_thirds : RowKind → ℕ
most_thirds (of.Nodes node.Mono) = most_periods
most_thirds (of.Nodes node.Top) = 1
most_thirds (of.Nodes node.Occupy) = most_periods
most_thirds (of.Nodes node.Enter) = most_periods
most_thirds (of.Nodes node.Leave) = 1
most_thirds (of.Places kind) = 1
most_thirds of.Connections = 1

module _ (parts : Parts) (scenario : IsScenario parts) where
  periods_few : parts.day.periods ≤ most_periods
  periods_few = scenario.day.periods_to

  -- so many of each place or connection
  parts_few : (kind : RowKind) (most : ℕ) → part_count parts kind ≤ most
      → ((a : ℕ) → second_count parts kind a ≤ most_periods)
      → sum_by (second_count parts kind) (range_with_len 0 (part_count parts kind))
      ≤ most * most_periods
  parts_few kind most few each =
      let all = sum_few (second_count parts kind) most_periods 0 (part_count parts kind) each in
      omega (arith, few, all)

  pairs_few : (kind : RowKind)
      → sum_by (second_count parts kind) (range_with_len 0 (part_count parts kind))
      ≤ most_pairs kind
  pairs_few (of.Nodes kind) =
      let same = all_nodes parts in
      let few = scenario.flights.nodes_few in
      omega (arith, same, few)
  pairs_few (of.Places kind) = parts_few (of.Places kind) most_places scenario.places.few (λ a.
      if_few (has_kind kind (slice_get parts.places a)) parts.day.periods most_periods periods_few)
  pairs_few of.Connections =
      parts_few of.Connections most_connections scenario.connections.few (λ a. periods_few)

  thirds_few : (kind : RowKind) (a b : ℕ) → (thirds parts kind a b).to ≤ most_thirds kind
  thirds_few (of.Nodes node.Mono) a b = periods_few
  thirds_few (of.Nodes node.Top) a b = omega arith
  thirds_few (of.Nodes node.Occupy) a b =
      if_few (has_inside (slice_get parts.flights a) b) parts.day.periods most_periods periods_few
  thirds_few (of.Nodes node.Enter) a b =
      if_few (nat_lt 0 b) parts.day.periods most_periods periods_few
  thirds_few (of.Nodes node.Leave) a b =
      if_few (goes_on (slice_get parts.flights a) b) 1 1 (omega arith)
  thirds_few (of.Places kind) a b = omega arith
  thirds_few of.Connections a b = omega arith

-- what follows of all kinds
module _ (parts : Parts) where
  pub kind_each : (kind : RowKind) → Each (Is parts) (kind_rows parts kind)
  kind_each kind = kind_all parts kind (Is parts) (row_is parts kind)

  kinds_each : (list : List RowKind) → Each (Is parts) (kinds_rows parts list)
  kinds_each [] = tt
  kinds_each (kind ∷ list) =
      each_append (Is parts) (kind_rows parts kind) (kinds_rows parts list) (kind_each kind)
      (kinds_each list)

  -- in the list of its kind, and so in that of all
  in_kinds : (name : RowName) (kind : RowKind) (list : List RowKind) (k : ℕ)
      → slice_get list k ≡ Some kind → Has parts name (kind_rows parts kind)
      → Has parts name (kinds_rows parts list)
  in_kinds name kind [] k at has = absurd (let e : ⊥ = cc in e)
  in_kinds name kind (first ∷ list) zero at has =
      let same : first ≡ kind = cc in
      any_first (λ other. other ≡ name) (kind_rows parts first) (kinds_rows parts list)
      (subst (λ (other : RowKind). Has parts name (kind_rows parts other)) (sym same) has)
  in_kinds name kind (first ∷ list) (suc k) at has =
      any_second (λ other. other ≡ name) (kind_rows parts first) (kinds_rows parts list)
      (in_kinds name kind list k at has)

  in_all : (kind : RowKind) (a b c : ℕ) → IsWithin parts kind a b c
      → Has parts (name_at kind a b c) (rows_of parts)
  in_all kind a b c within =
      in_kinds (name_at kind a b c) kind row_kinds (rank kind) (listed kind)
      (kind_has parts kind a b c within)

pub rows_each : (parts : Parts) (name : RowName)
    → Any (λ other. other ≡ name) (rows_of parts) ↔ is_row parts name ≡ true
rows_each parts name = (
  each_any (λ other. is_row parts other ≡ true) name (rows_of parts) (kinds_each parts row_kinds),
  named parts (in_all parts) name,
)

pub told_each : (parts : Parts) (names : List RowName) (name : RowName) → names ≡ rows_of parts
    → Any (λ other. other ≡ name) names ↔ is_row parts name ≡ true
told_each parts names name are =
    subst (λ list. Any (λ other. other ≡ name) list ↔ is_row parts name ≡ true) (sym are)
    (rows_each parts name)

-- kinds whose ranks are one after the other, from one on
abbrev are_ranked : ℕ → List RowKind → Bool
are_ranked from [] = true
are_ranked from (kind ∷ list) = (rank kind == from) && are_ranked (from + 1) list

kinds_ascend : (parts : Parts) (from : ℕ) (list : List RowKind) → are_ranked from list ≡ true
    → AreFrom from (kinds_rows parts list)
kinds_ascend parts from [] ranked = record { each = tt; ascending = tt }
kinds_ascend parts from (kind ∷ list) ranked =
    let both = and_parts (rank kind == from) (are_ranked (from + 1) list) ranked in
    kind_then from (kind_rows parts kind) (kinds_rows parts list)
    (subst (λ k. AreOf k (kind_rows parts kind)) (eqb-true (rank kind) from both.0)
    (kind_ascends parts kind (rank kind) (keys parts kind)))
    (kinds_ascend parts (from + 1) list both.1)

pub rows_ascend : (parts : Parts) → AllPairs IsBefore (rows_of parts)
rows_ascend parts =
    ascending_pairs IsBefore (rows_of parts) (kinds_ascend parts 0 row_kinds refl).ascending

pub told_order : (parts : Parts) (names : List RowName) → names ≡ rows_of parts
    → AllPairs IsBefore names
told_order parts names are = subst (AllPairs IsBefore) (sym are) (rows_ascend parts)

-- how many there are at most
abbrev most_of : RowKind → ℕ
most_of kind = most_pairs kind * most_thirds kind

abbrev most_in : List RowKind → ℕ
most_in [] = 0
most_in (kind ∷ list) = most_of kind + most_in list

module _ (parts : Parts) (scenario : IsScenario parts) where
  kind_few : (kind : RowKind) → length (kind_rows parts kind) ≤ most_of kind
  kind_few kind =
      most_rows parts kind (most_pairs kind) (most_thirds kind) (pairs_few parts scenario kind)
      (thirds_few parts scenario kind)

  kinds_few : (list : List RowKind) → length (kinds_rows parts list) ≤ most_in list
  kinds_few [] = omega arith
  kinds_few (kind ∷ list) =
      let both = length-append (kind_rows parts kind) (kinds_rows parts list) in
      let here = kind_few kind in
      let more = kinds_few list in
      omega (arith, both, here, more)

  pub rows_few : length (rows_of parts) ≤ 35000000
  rows_few = let all = kinds_few row_kinds in omega (arith, all)
