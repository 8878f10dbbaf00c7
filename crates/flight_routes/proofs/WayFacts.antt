-- From the least over periods to the least over ways, and how far a way's cost is from zero.
use Rattle.std.proofs.Common.{◌≡◌, ◌⊎◌, ℕ, ◌+◌, ◌-◌, ◌*◌, ◌^◌, ◌<◌, ◌≤◌, List, [], ◌∷◌, length, slice_index_or, get_or, Option, None, Some, IsSome, IfSome, All, ℤ, neg_ℤ, ◌+ℤ◌, ◌≤ℤ◌, pos, refl, sym, ap, subst, inl, inr, arith}
use Rattle.std.proofs.lemmas.Int.{ints}
use Rattle.std.proofs.lemmas.List.Elements.{Contains-get_or}
use Rattle.std.specs.List.{Contains}
use Rattle.flow_types.specs.declared.flight.Flight.{Flight}
use Rattle.flow_types.specs.declared.flight.Leg.{Leg}
use Rattle.flow_types.specs.declared.plan.Stop.{Stop}
use Rattle.flow_types.specs.Routes.{IsLeg}
use Rattle.flow_types.specs.Trips.{IsStep}
use Rattle.time_windows.specs.declared.access.Access.{Access}
use Rattle.time_windows.specs.Boxes.{IsInWindow}
use Rattle.exact_sums.specs.Leasts.{IsLeast, raised}
use Rattle.exact_sums.proofs.LeastFacts.{least_along, least_either, least_same, least_through}
use Rattle.flight_routes.specs.Entries.{IsMoveBy, Offers, cell_at, entry_cost}
use Rattle.flight_routes.specs.Rates.{IsPassage, IsWay, IsWayOn, PassesNoMust, Rates, value_or_zero, way_cost, whole_cost}
use Rattle.exact_sums.specs.Near.{IsNear}
use Rattle.flight_routes.specs.Ready.{AreSmall, IsUpward}
use Rattle.flight_routes.specs.Ways.{AreCells, HasLegsFrom, IsCell, IsPassageAmong, IsPassageBy, IsStart, IsWayAmong, IsWayBy, entered_cost, start_cost, stop_at}
use Rattle.flight_routes.proofs.EntryFacts.{no_none, some_is, some_within}
use Rattle.flight_routes.proofs.PassageFacts.{all_passage, passage_all, passage_apart, passage_left, passage_none, passage_right}

-- its value
pub value_is : (o : Option ℤ) (v : ℤ) → o ≡ Some v → value_or_zero o ≡ v
value_is o v is = ap value_or_zero is

-- a leg of the flight leads upward, to one of its nodes
pub leg_is : (nodes : ℕ) (legs : List Leg) (leg : Leg) → All (IsLeg nodes) legs → Contains legs leg
    → IsLeg nodes leg
leg_is nodes legs leg all has = subst (IsLeg nodes) has.2 (all has.0 leg has.1)

-- so does one of a list that has the flight's legs from a node
pub leg_at : (flight : Flight) (upward : IsUpward flight) (legs : List Leg) (node : ℕ)
    → HasLegsFrom node flight.legs legs → (at : ℕ) (d : Leg) → at < length legs
    → IsLeg (length flight.nodes) (slice_index_or legs at d)
leg_at flight upward legs node has at d inside =
    leg_is (length flight.nodes) flight.legs (slice_index_or legs at d) upward.legs
    (has.only (slice_index_or legs at d) (Contains-get_or legs at d inside))

module _ (flight : Flight) (row : ℕ → Access) (rates : Rates) (upward : IsUpward flight) where
  -- a step leads upward, to one of the nodes
  pub step_up : (stop next : Stop) → IsStep flight.legs stop next
      → (stop.node < next.node) × (next.node < length flight.nodes)
  step_up stop next step =
      let leg = leg_is (length flight.nodes) flight.legs step.1 upward.legs
      (step.0, step.2, step.3) in (
        omega (arith, leg.upward, step.4.from, step.4.to),
        omega (arith, leg.within, step.4.to),
      )

  -- no way is far from zero
  way_within : (small : AreSmall rates) (stop : Stop) (rest : List Stop)
      → IsWayOn flight row rates stop rest
      → (neg_ℤ (pos (2 ^ 110 + (length flight.nodes - stop.node) * 2 ^ 101))
      ≤ℤ way_cost rates stop rest)
      × (way_cost rates stop rest
      ≤ℤ pos (2 ^ 110 + (length flight.nodes - stop.node) * 2 ^ 101))
  way_within small stop [] way =
      let value = some_within (rates.arrives stop.time) (small.arrives stop.time) in
      (omega (arith, ints, value.low), omega (arith, ints, value.high))
  way_within small stop (next ∷ rest) way =
      let on = way_within small next rest way.1 in
      let up = step_up stop next way.0.step in
      let enters = small.paid stop.node next.time in
      let leaves = small.paid stop.node stop.time in (
        omega (arith, ints, on.0, up.0, up.1, enters.low, leaves.high),
        omega (arith, ints, on.1, up.0, up.1, enters.high, leaves.low),
      )

  within_by : (small : AreSmall rates) (node t : ℕ) (cell : Option ℤ)
      → IsCell flight row rates node t cell → IfSome cell (IsNear (2 ^ 111))
  within_by small node t None cell = tt
  within_by small node t (Some v) cell =
      let way = way_within small (stop_at node t) cell.reached.0 cell.reached.1 in
      let few = upward.nodes_to in
      record {
        low = omega (arith, ints, way.0, few, cell.reached.2);
        high = omega (arith, ints, way.1, few, cell.reached.2);
      }

  -- nor is a cell
  pub cells_within : (small : AreSmall rates) (from : ℕ) (cells : List (Option ℤ))
      → AreCells flight row rates from cells → (n u : ℕ) → from ≤ n → n < length flight.nodes
      → IsInWindow (row n).window u → IfSome (cell_at cells n u) (IsNear (2 ^ 111))
  cells_within small from cells are n u after inside within =
      within_by small n u (cell_at cells n u) (are.each n u after inside within)

  no_way_past : (node t : ℕ) (next : Stop) → node + 1 ≡ length flight.nodes
      → IsPassage flight row rates (stop_at node t) next → ⊥
  no_way_past node t next last passage =
      let up = step_up (stop_at node t) next passage.step in
      omega (arith, up.0, up.1)

  arrives_none : (node t : ℕ) → node + 1 ≡ length flight.nodes → rates.arrives t ≡ None
      → (rest : List Stop) → IsWayOn flight row rates (stop_at node t) rest → ⊥
  arrives_none node t last is [] way = no_none (rates.arrives t) is way.1
  arrives_none node t last is (next ∷ rest) way = no_way_past node t next last way.0

  arrives_below : (node t : ℕ) (v : ℤ) → node + 1 ≡ length flight.nodes
      → rates.arrives t ≡ Some v → (rest : List Stop)
      → IsWayOn flight row rates (stop_at node t) rest → v ≤ℤ way_cost rates (stop_at node t) rest
  arrives_below node t v last is [] way =
      let e = value_is (rates.arrives t) v is in
      omega (arith, ints, e)
  arrives_below node t v last is (next ∷ rest) way = absurd (no_way_past node t next last way.0)

  arrives_by : (node t : ℕ) (o : Option ℤ) → node + 1 ≡ length flight.nodes → rates.arrives t ≡ o
      → IsCell flight row rates node t o
  arrives_by node t None last is = arrives_none node t last is
  arrives_by node t (Some v) last is = record {
    reached = ([], (last, some_is (rates.arrives t) v is), value_is (rates.arrives t) v is);
    below = arrives_below node t v last is;
  }

  -- at the last node a way on is to arrive
  pub arrives_is : (node t : ℕ) → node + 1 ≡ length flight.nodes
      → IsCell flight row rates node t (rates.arrives t)
  arrives_is node t last = arrives_by node t (rates.arrives t) last refl

  -- a cell is the least of the ways on with what being at the node had cost, less that
  pub entered_is : (node t : ℕ) (least : Option ℤ)
      → IsLeast (IsWayOn flight row rates (stop_at node t)) (entered_cost rates (stop_at node t))
      least → IsCell flight row rates node t (raised (neg_ℤ (rates.paid node t)) least)
  entered_is node t =
      least_along (IsWayOn flight row rates (stop_at node t))
      (IsWayOn flight row rates (stop_at node t)) (entered_cost rates (stop_at node t))
      (way_cost rates (stop_at node t)) (neg_ℤ (rates.paid node t))
      (λ way on. (way, on, omega (arith, ints))) (λ way on. (way, on, omega (arith, ints)))

  entered_by : (small : AreSmall rates) (node t : ℕ) (least : Option ℤ)
      → IfSome (raised (neg_ℤ (rates.paid node t)) least) (IsNear (2 ^ 111))
      → IfSome least (IsNear (2 ^ 112))
  entered_by small node t None within = tt
  entered_by small node t (Some v) within =
      let paid = small.paid node t in
      record {
        low = omega (arith, ints, within.low, paid.low);
        high = omega (arith, ints, within.high, paid.high);
      }

  -- so it is small too
  pub entered_within : (small : AreSmall rates) (node t : ℕ) (least : Option ℤ)
      → IsLeast (IsWayOn flight row rates (stop_at node t)) (entered_cost rates (stop_at node t))
      least → IfSome least (IsNear (2 ^ 112))
  entered_within small node t least is =
      entered_by small node t least
      (within_by small node t (raised (neg_ℤ (rates.paid node t)) least)
      (entered_is node t least is))

  module _ (legs : List Leg) (node t : ℕ) where
    -- by no leg there is no way
    none_among : (rest : List Stop)
        → IsWayAmong flight legs 0 row rates (stop_at node t) rest → ⊥
    none_among [] way = way
    none_among (next ∷ rest) way = passage_none row rates legs (stop_at node t) next way.0

    pub among_none : IsLeast (IsWayAmong flight legs 0 row rates (stop_at node t))
        (entered_cost rates (stop_at node t)) None
    among_none = none_among

    -- by all legs from the node there are all ways
    module _ (has : HasLegsFrom node flight.legs legs)
        (before : node + 1 < length flight.nodes) where
      among_all : (rest : List Stop)
          → IsWayAmong flight legs (length legs) row rates (stop_at node t) rest
          → IsWayOn flight row rates (stop_at node t) rest
      among_all [] way = absurd way
      among_all (next ∷ rest) way =
          (passage_all row rates legs (stop_at node t) next flight has way.0, way.1)

      all_among : (rest : List Stop) → IsWayOn flight row rates (stop_at node t) rest
          → IsWayAmong flight legs (length legs) row rates (stop_at node t) rest
      all_among [] way = omega (arith, way.0)
      all_among (next ∷ rest) way =
          (all_passage row rates legs (stop_at node t) next flight has way.0, way.1)

      pub among_is : (least : Option ℤ)
          → IsLeast (IsWayAmong flight legs (length legs) row rates (stop_at node t))
          (entered_cost rates (stop_at node t)) least
          → IsLeast (IsWayOn flight row rates (stop_at node t))
          (entered_cost rates (stop_at node t)) least
      among_is = least_same (IsWayAmong flight legs (length legs) row rates (stop_at node t))
          (IsWayOn flight row rates (stop_at node t)) (entered_cost rates (stop_at node t))
          among_all all_among

    module _ (cells : List (Option ℤ)) (are : AreCells flight row rates (node + 1) cells)
        (leg : Leg) (is_leg : IsLeg (length flight.nodes) leg) where
      -- the leg leads there, whether or not there is a way on
      record Leads (u : ℕ) : Type 0 where
        here : leg.from ≡ node
        musts : PassesNoMust row node leg.to
        window : IsInWindow (row leg.to).window u
        late : t + leg.least ≤ u
        stay : u ≤ rates.clear node t

      to_move : (u : ℕ) (v : ℤ) → Leads u → cell_at cells leg.to u ≡ Some v
          → IsMoveBy row rates cells leg node t u
          × (entry_cost (rates.paid node) (cell_at cells leg.to) u
          ≡ rates.paid node u +ℤ v)
      to_move u v leads is = (
        record {
          here = leads.here;
          musts = leads.musts;
          window = leads.window;
          late = leads.late;
          stay = leads.stay;
          reaches = some_is (cell_at cells leg.to u) v is;
        },
        (let same = value_is (cell_at cells leg.to u) v is in omega (arith, ints, same)),
      )

      of_move : (u : ℕ) → IsMoveBy row rates cells leg node t u
          → Leads u × IsSome (cell_at cells leg.to u)
      of_move u move = (
        record {
          here = move.here;
          musts = move.musts;
          window = move.window;
          late = move.late;
          stay = move.stay;
        },
        move.reaches,
      )

      join_leg : (u : ℕ) (rest : List Stop) → Leads u
          → IsWayOn flight row rates (stop_at leg.to u) rest → (way : List Stop)
          × IsWayBy flight leg row rates (stop_at node t) way
          × (entered_cost rates (stop_at node t) way
          ≡ rates.paid node u +ℤ way_cost rates (stop_at leg.to u) rest)
      join_leg u rest leads on = (
        stop_at leg.to u ∷ rest,
        (
          record {
            between = record { from = leads.here; to = refl; least = leads.late };
            musts = leads.musts;
            stay = leads.stay;
            window = leads.window;
          },
          on,
        ),
        omega (arith, ints),
      )

      part_leg : (way : List Stop) → IsWayBy flight leg row rates (stop_at node t) way
          → (u : ℕ) × (rest : List Stop) × Leads u
          × IsWayOn flight row rates (stop_at leg.to u) rest
          × (entered_cost rates (stop_at node t) way
          ≡ rates.paid node u +ℤ way_cost rates (stop_at leg.to u) rest)
      part_leg [] way = absurd way
      part_leg (next ∷ rest) way =
          let to : next.node ≡ leg.to = sym way.0.between.to in (
            next.time,
            rest,
            record {
              here = way.0.between.from;
              musts = subst (PassesNoMust row node) to way.0.musts;
              window = subst (λ (n : ℕ). IsInWindow (row n).window next.time) to way.0.window;
              late = way.0.between.least;
              stay = way.0.stay;
            },
            subst (λ (n : ℕ). IsWayOn flight row rates (stop_at n next.time) rest) to way.1,
            (let same = ap (λ (n : ℕ). way_cost rates (stop_at n next.time) rest) to in
                omega (arith, ints, same)),
          )

      ways_by : (offer : Option ℤ) → IsLeast (IsMoveBy row rates cells leg node t)
          (entry_cost (rates.paid node) (cell_at cells leg.to)) offer
          → IsLeast (IsWayBy flight leg row rates (stop_at node t))
          (entered_cost rates (stop_at node t)) offer
      ways_by = least_through Leads (cell_at cells leg.to)
          (λ u. rates.paid node u)
          (λ u. IsWayOn flight row rates (stop_at leg.to u))
          (λ u. way_cost rates (stop_at leg.to u))
          (λ u leads. are.each leg.to u (omega (arith, is_leg.upward, leads.here)) is_leg.within
          leads.window)
          (IsMoveBy row rates cells leg node t)
          (entry_cost (rates.paid node) (cell_at cells leg.to))
          (IsWayBy flight leg row rates (stop_at node t)) (entered_cost rates (stop_at node t))
          to_move of_move join_leg part_leg

      among_left : (k : ℕ) (way : List Stop)
          → IsWayAmong flight legs k row rates (stop_at node t) way
          → IsWayAmong flight legs (k + 1) row rates (stop_at node t) way
      among_left k [] way = way
      among_left k (next ∷ rest) way =
          (passage_left row rates legs (stop_at node t) next k way.0, way.1)

      among_right : (k : ℕ) → k < length legs → leg ≡ get_or legs k leg → (way : List Stop)
          → IsWayBy flight leg row rates (stop_at node t) way
          → IsWayAmong flight legs (k + 1) row rates (stop_at node t) way
      among_right k inside is [] way = way
      among_right k inside is (next ∷ rest) way =
          (passage_right row rates legs (stop_at node t) next leg k inside is way.0, way.1)

      with_rest : (k : ℕ) (next : Stop) (rest : List Stop) → IsWayOn flight row rates next rest
          → IsPassageAmong legs k row rates (stop_at node t) next
          ⊎ IsPassageBy leg row rates (stop_at node t) next
          → IsWayAmong flight legs k row rates (stop_at node t) (next ∷ rest)
          ⊎ IsWayBy flight leg row rates (stop_at node t) (next ∷ rest)
      with_rest k next rest on (inl among) = inl (among, on)
      with_rest k next rest on (inr by) = inr (by, on)

      among_apart : (k : ℕ) → k < length legs → leg ≡ get_or legs k leg → (way : List Stop)
          → IsWayAmong flight legs (k + 1) row rates (stop_at node t) way
          → IsWayAmong flight legs k row rates (stop_at node t) way
          ⊎ IsWayBy flight leg row rates (stop_at node t) way
      among_apart k inside is [] way = absurd way
      among_apart k inside is (next ∷ rest) way =
          with_rest k next rest way.1
          (passage_apart row rates legs (stop_at node t) next leg k inside is way.0)

      -- one leg more
      pub among_next : (k : ℕ) → k < length legs → leg ≡ get_or legs k leg → (old new : Option ℤ)
          → IsLeast (IsWayAmong flight legs k row rates (stop_at node t))
          (entered_cost rates (stop_at node t)) old
          → Offers (IsMoveBy row rates cells leg node t)
          (entry_cost (rates.paid node) (cell_at cells leg.to)) old new
          → IsLeast (IsWayAmong flight legs (k + 1) row rates (stop_at node t))
          (entered_cost rates (stop_at node t)) new
      among_next k inside is old new so_far offers =
          subst (IsLeast (IsWayAmong flight legs (k + 1) row rates (stop_at node t))
          (entered_cost rates (stop_at node t))) (sym offers.is)
          (least_either (IsWayAmong flight legs k row rates (stop_at node t))
          (IsWayBy flight leg row rates (stop_at node t))
          (IsWayAmong flight legs (k + 1) row rates (stop_at node t))
          (entered_cost rates (stop_at node t)) (among_left k) (among_right k inside is)
          (among_apart k inside is) old offers.offer so_far (ways_by offers.offer offers.least))

  module _ (cells : List (Option ℤ)) (are : AreCells flight row rates 0 cells) where
    Leaves : ℕ → Type 0
    Leaves t = IsInWindow (row 0).window t × IsSome (rates.leaves t)

    to_start : (t : ℕ) (v : ℤ) → Leaves t → cell_at cells 0 t ≡ Some v
        → IsStart row rates cells t
        × (start_cost rates cells t ≡ value_or_zero (rates.leaves t) +ℤ v)
    unfolding Leaves
    to_start t v leaves is = (
      record {
        window = leaves.0;
        leaves = leaves.1;
        reaches = some_is (cell_at cells 0 t) v is;
      },
      ap (λ z. value_or_zero (rates.leaves t) +ℤ z) (value_is (cell_at cells 0 t) v is),
    )

    of_start : (t : ℕ) → IsStart row rates cells t → Leaves t × IsSome (cell_at cells 0 t)
    unfolding Leaves
    of_start t start = ((start.window, start.leaves), start.reaches)

    join_start : (t : ℕ) (rest : List Stop) → Leaves t
        → IsWayOn flight row rates (stop_at 0 t) rest
        → (way : List Stop) × IsWay flight row rates way
        × (whole_cost rates way
        ≡ value_or_zero (rates.leaves t) +ℤ way_cost rates (stop_at 0 t) rest)
    unfolding Leaves
    join_start t rest leaves on =
        (stop_at 0 t ∷ rest, (refl, leaves.0, leaves.1, on), refl)

    part_start : (way : List Stop) → IsWay flight row rates way
        → (t : ℕ) × (rest : List Stop) × Leaves t × IsWayOn flight row rates (stop_at 0 t) rest
        × (whole_cost rates way
        ≡ value_or_zero (rates.leaves t) +ℤ way_cost rates (stop_at 0 t) rest)
    unfolding Leaves
    part_start [] way = absurd way
    part_start (stop ∷ rest) way = (
      stop.time,
      rest,
      (way.1, way.2),
      subst (λ (n : ℕ). IsWayOn flight row rates (stop_at n stop.time) rest) way.0 way.3,
      ap (λ (n : ℕ). value_or_zero (rates.leaves stop.time)
          +ℤ way_cost rates (stop_at n stop.time) rest) way.0,
    )

    leaves_cell : (t : ℕ) → Leaves t → IsCell flight row rates 0 t (cell_at cells 0 t)
    unfolding Leaves
    leaves_cell t leaves = are.each 0 t (omega arith) (omega (arith, upward.nodes_from)) leaves.0

    -- the least start is that of the least way
    pub starts_are : (least : Option ℤ)
        → IsLeast (IsStart row rates cells) (start_cost rates cells) least
        → IsLeast (IsWay flight row rates) (whole_cost rates) least
    starts_are = least_through Leaves (cell_at cells 0) (λ t. value_or_zero (rates.leaves t))
        (λ t. IsWayOn flight row rates (stop_at 0 t)) (λ t. way_cost rates (stop_at 0 t))
        leaves_cell (IsStart row rates cells) (start_cost rates cells) (IsWay flight row rates)
        (whole_cost rates) to_start of_start join_start part_start
