-- What is listed by kinds: names whose numbers are within those of their kind.
use Rattle.std.proofs.Common.{◌≡◌, ℕ, zero, suc, ◌+◌, ◌-◌, ◌*◌, ◌<◌, ◌≤◌, Bool, true, false, List, [], ◌∷◌, length, Option, None, Some, slice_get, if◌then◌else◌, refl, ap, subst, arith}
use Rattle.std.proofs.Math.Nat.{add-mul, mul-le-mul_right}
use Rattle.std.proofs.lemmas.Bool.{and_parts, lt-ltb, ltb-true}
use Rattle.std.proofs.lemmas.List.FromFn.{length-map-range_with_len}
use Rattle.std.proofs.lemmas.List.Sums.{sum_by-cons}
use Rattle.std.proofs.lemmas.List.Concat.{length-flat_map}
use Rattle.std.specs.List.{Any, range_with_len, sum_by}
use Rattle.flow_types.specs.declared.flight.Flight.{Flight}
use Rattle.flow_types.specs.declared.parts.Parts.{Parts}
use Rattle.flow_types.specs.Limits.{most_nodes}
use Rattle.flow_types.specs.Valid.{IsScenario}
use Rattle.time_windows.proofs.RootFacts.{flight_in}
use Rattle.bytime_model.specs.declared.names.RowKind.{RowKind}
use Rattle.bytime_model.specs.declared.names.RowName.{RowName}
use Rattle.bytime_model.specs.AllRows.{kind_rows, part_rows, third_rows}
use Rattle.bytime_model.specs.Kinds.{name_at, part_count, second_count, thirds}
use Rattle.bytime_model.specs.Rows.{goes_on, is_node, node_count}
use Rattle.bytime_model.specs.Values.{has_inside}
use Rattle.bytime_model.proofs.NameLists.{Each, any_flat, any_map, each_flat, each_map}

-- a flight's nodes
pub is_node_within : (flight : Option Flight) (n : ℕ) → n < node_count flight
    → is_node flight n ≡ true
is_node_within None n within = absurd (omega (arith, within))
is_node_within (Some flight) n within = lt-ltb n (length flight.nodes) within

pub node_within : (flight : Option Flight) (n : ℕ) → is_node flight n ≡ true
    → n < node_count flight
node_within None n is = absurd cc
node_within (Some flight) n is = ltb-true n (length flight.nodes) is

pub goes_within : (flight : Option Flight) (n : ℕ) → goes_on flight n ≡ true
    → n < node_count flight
goes_within None n is = absurd cc
goes_within (Some flight) n is = omega (arith, ltb-true (n + 1) (length flight.nodes) is)

pub inside_within : (flight : Option Flight) (n : ℕ) → has_inside flight n ≡ true
    → n < node_count flight
inside_within None n is = absurd cc
inside_within (Some flight) n is = omega (
  arith,
  ltb-true (n + 1) (length flight.nodes) (and_parts _ _ (and_parts _ _ is).1).0,
)

-- there is a flight where it has nodes
pub flight_within : (flights : List Flight) (f n : ℕ) → n < node_count (slice_get flights f)
    → f < length flights
flight_within [] f n within = absurd (omega (arith, within))
flight_within (flight ∷ flights) zero n within = omega arith
flight_within (flight ∷ flights) (suc f) n within =
    omega (arith, flight_within flights f n within)

-- no flight has more nodes
pub nodes_few : (parts : Parts) (f : ℕ) → IsScenario parts
    → node_count (slice_get parts.flights f) ≤ most_nodes
nodes_few parts f scenario = by (slice_get parts.flights f) refl
  where
    by : (found : Option Flight) → slice_get parts.flights f ≡ found
        → node_count found ≤ most_nodes
    by None none = omega arith
    by (Some flight) there = (flight_in parts f flight scenario there).route.nodes_to

-- so many where there are some
pub within_if : (some : Bool) (count k : ℕ) → k < (if some then count else 0)
    → (some ≡ true) × (k < count)
within_if true count k within = (refl, within)
within_if false count k within = absurd (omega (arith, within))

pub if_within : (some : Bool) (count k : ℕ) → some ≡ true → k < count
    → k < (if some then count else 0)
if_within true count k is within = within
if_within false count k is within = absurd cc

pub if_few : (some : Bool) (count most : ℕ) → count ≤ most → (if some then count else 0) ≤ most
if_few true count most few = few
if_few false count most few = omega arith

-- sums over numbers that follow each other
pub sum_few : (count : ℕ → ℕ) (most from n : ℕ) → ((k : ℕ) → count k ≤ most)
    → sum_by count (range_with_len from n) ≤ n * most
sum_few count most from zero few = omega arith
sum_few count most from (suc n) few =
    let all : sum_by count (range_with_len from (suc n))
    ≡ count from + sum_by count (range_with_len (from + 1) n) =
    sum_by-cons count from (range_with_len (from + 1) n) in
    let here = few from in
    let more = sum_few count most (from + 1) n few in
    omega (arith, all, here, more)

sum_times : (size count : ℕ → ℕ) (most from n : ℕ) → ((k : ℕ) → size k ≤ count k * most)
    → sum_by size (range_with_len from n) ≤ sum_by count (range_with_len from n) * most
sum_times size count most from zero few = omega arith
sum_times size count most from (suc n) few =
    let numbers = range_with_len (from + 1) n in
    let sizes : sum_by size (range_with_len from (suc n)) ≡ size from + sum_by size numbers =
    sum_by-cons size from numbers in
    let counts : sum_by count (range_with_len from (suc n)) ≡ count from + sum_by count numbers =
    sum_by-cons count from numbers in
    let times = ap (λ c. c * most) counts in
    let here = few from in
    let more = sum_times size count most (from + 1) n few in
    let both = add-mul (count from) (sum_by count numbers) most in
    omega (arith, sizes, times, here, more, both)

-- the nodes of all flights, by the numbers of these
sum_nodes : (flights : List Flight) (found : ℕ → Option Flight) (from : ℕ)
    → ((k : ℕ) → found (from + k) ≡ slice_get flights k)
    → sum_by (λ f. node_count (found f)) (range_with_len from (length flights))
    ≡ sum_by (λ (flight : Flight). length flight.nodes) flights
sum_nodes [] found from are = refl
sum_nodes (flight ∷ flights) found from are =
    let first : found from ≡ Some flight =
    subst (λ i. found i ≡ Some flight) (omega arith) (are 0) in
    let rest : (k : ℕ) → found (from + 1 + k) ≡ slice_get flights k =
    λ k. subst (λ i. found i ≡ slice_get flights k) (omega arith) (are (suc k)) in
    let all : sum_by (λ f. node_count (found f)) (range_with_len from (suc (length flights)))
    ≡ node_count (found from)
    + sum_by (λ f. node_count (found f)) (range_with_len (from + 1) (length flights)) =
    sum_by-cons (λ f. node_count (found f)) from (range_with_len (from + 1) (length flights)) in
    let nodes = sum_by-cons (λ (other : Flight). length other.nodes) flight flights in
    let here = ap node_count first in
    omega (arith, all, nodes, here, sum_nodes flights found (from + 1) rest)

pub all_nodes : (parts : Parts)
    → sum_by (λ f. node_count (slice_get parts.flights f)) (range_with_len 0 (length parts.flights))
    ≡ sum_by (λ (flight : Flight). length flight.nodes) parts.flights
all_nodes parts =
    sum_nodes parts.flights (slice_get parts.flights) 0
    (λ k. ap (slice_get parts.flights) (omega arith))

-- the numbers are within those of the kind
pub record IsWithin (parts : Parts) (kind : RowKind) (a b c : ℕ) : Type 0 where
  pub first : a < part_count parts kind
  pub second : b < second_count parts kind a
  pub from : (thirds parts kind a b).from ≤ c
  pub to : c < (thirds parts kind a b).to

module _ (parts : Parts) (kind : RowKind) where
  -- what holds of each name with such numbers holds of each that is listed
  pub kind_all : (P : RowName → Type 0)
      → ((a b c : ℕ) → IsWithin parts kind a b c → P (name_at kind a b c))
      → Each P (kind_rows parts kind)
  kind_all P each =
      each_flat P (part_rows parts kind) 0 (part_count parts kind) (λ a _ first.
      each_flat P (third_rows parts kind a) 0 (second_count parts kind a) (λ b _ second.
      each_map P (name_at kind a b) (thirds parts kind a b).from
      ((thirds parts kind a b).to - (thirds parts kind a b).from) (λ c from to.
      each a b c (record {
        first = omega (arith, first);
        second = omega (arith, second);
        from = from;
        to = omega (arith, from, to);
      }))))

  -- and each of these names is listed
  pub kind_has : (a b c : ℕ) → IsWithin parts kind a b c
      → Any (λ other. other ≡ name_at kind a b c) (kind_rows parts kind)
  kind_has a b c within =
      let first = within.first in
      let second = within.second in
      let from = within.from in
      let to = within.to in
      any_flat (λ other. other ≡ name_at kind a b c) (part_rows parts kind) 0
      (part_count parts kind) a (omega arith) (omega (arith, first))
      (any_flat (λ other. other ≡ name_at kind a b c) (third_rows parts kind a) 0
      (second_count parts kind a) b (omega arith) (omega (arith, second))
      (any_map (λ other. other ≡ name_at kind a b c) (name_at kind a b)
      (thirds parts kind a b).from ((thirds parts kind a b).to - (thirds parts kind a b).from) c
      from (omega (arith, from, to)) refl))

  -- how many there are at most: so many pairs of a first and a second number, and of each so many
  pub most_rows : (pairs most : ℕ)
      → sum_by (second_count parts kind) (range_with_len 0 (part_count parts kind)) ≤ pairs
      → ((a b : ℕ) → (thirds parts kind a b).to ≤ most)
      → length (kind_rows parts kind) ≤ pairs * most
  most_rows pairs most pairs_few third_few =
      let numbers = range_with_len 0 (part_count parts kind) in
      let same = length-flat_map (part_rows parts kind) numbers in
      let all = sum_times (λ a. length (part_rows parts kind a)) (second_count parts kind) most 0
      (part_count parts kind) part_few in
      let more = mul-le-mul_right most pairs_few in
      omega (arith, same, all, more)
    where
      thirds_few : (a b : ℕ) → length (third_rows parts kind a b) ≤ most
      thirds_few a b =
          let from = (thirds parts kind a b).from in
          let to = (thirds parts kind a b).to in
          let same = length-map-range_with_len (name_at kind a b) from (to - from) in
          let few = third_few a b in
          omega (arith, same, few)

      part_few : (a : ℕ) → length (part_rows parts kind a) ≤ second_count parts kind a * most
      part_few a =
          let numbers = range_with_len 0 (second_count parts kind a) in
          let same = length-flat_map (third_rows parts kind a) numbers in
          let all = sum_few (λ b. length (third_rows parts kind a b)) most 0
          (second_count parts kind a) (thirds_few a) in
          omega (arith, same, all)
