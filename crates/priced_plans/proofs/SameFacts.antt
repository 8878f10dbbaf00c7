-- Tables with the same prices for the day: trips cost the same with both, and what both come to is
-- the same.
use Rattle.std.proofs.Common.{◌≡◌, ℕ, zero, suc, ◌+◌, ◌-◌, ◌*◌, ◌<◌, ◌≤◌, ◌==◌, Bool, true, false, if◌then◌else◌, List, [], ◌∷◌, length, sum_by, Option, ℤ, pos, ◌+ℤ◌, ◌-ℤ◌, ◌*ℤ◌, refl, sym, ap, ap₂, ◌∙◌, subst, arith}
use Rattle.std.specs.List.{range_with_len}
use Rattle.std.proofs.lemmas.Int.{ints}
use Rattle.exact_sums.specs.Leasts.{IsLeastAt}
use Rattle.exact_sums.proofs.ItemFacts.{All-item}
use Rattle.flow_types.specs.declared.bound.PriceKey.{PriceKey}
use Rattle.flow_types.specs.declared.bound.PriceKind.TheVariants.{Capacity, Connection as Connected}
use Rattle.flow_types.specs.declared.flight.Connection.{Connection}
use Rattle.flow_types.specs.declared.flight.Flight.{Flight}
use Rattle.flow_types.specs.declared.parts.Parts.{Parts}
use Rattle.flow_types.specs.declared.place.CapKind.{CapKind}
use Rattle.flow_types.specs.declared.place.CapKind.TheVariants as kind
use Rattle.flow_types.specs.declared.plan.Stop.{Stop}
use Rattle.flow_types.specs.Capacities.{capacity_of}
use Rattle.flow_types.specs.Costs.{trip_cost}
use Rattle.flow_types.specs.Trips.{IsOnward, arrival_from, place_at}
use Rattle.flow_types.specs.Valid.{IsFlight, IsScenario}
use Rattle.flow_types.proofs.PlaceFacts.{has_kind-within}
use Rattle.flight_routes.specs.Inside.{IsTripIn}
use Rattle.flight_routes.specs.Prices.{Block, PriceTable, key_in, price_at, price_in, priced_cost, priced_cost_of, stay_price, stays_price, summed, turns_back, turns_paid}
use Rattle.flight_routes.proofs.TripFacts.{in_day}
use Rattle.time_windows.specs.Boxes.{Box}
use Rattle.priced_plans.specs.PricedBound.{IsRoundedUp}
use Rattle.priced_plans.specs.Values.{IsPricedSum, IsPricedValue, capacity_price, limit_price}
use Rattle.priced_plans.proofs.RangeFacts.{range-same}
use Rattle.priced_plans.specs.Keys.{IsKeyFor}
use Rattle.priced_plans.proofs.NodeFacts.{place_there}

-- the prices of the day are the same
abbrev pub AreSame : Parts → PriceTable → PriceTable → Type 0
AreSame parts a b = (k : PriceKey) → IsKeyFor parts k → price_at a k ≡ price_at b k

summed_same : (p q : ℕ → ℕ) (from to : ℕ) → ((t : ℕ) → t < to → p t ≡ q t)
    → summed p from to ≡ summed q from to
summed_same p q from to each =
    range-same p q from (to - from) (λ t after before. each t (omega (arith, after, before)))

capacity_same : (parts : Parts) (kind : CapKind) (p q : Block)
    → ((k t : ℕ) → k < length parts.places → t < parts.day.periods
    → price_in p k t ≡ price_in q k t)
    → capacity_price parts kind p ≡ capacity_price parts kind q
capacity_same parts kind p q each =
    range-same (λ k. sum_by (λ t. price_in p k t * capacity_of parts.places kind k t)
    (range_with_len 0 parts.day.periods))
    (λ k. sum_by (λ t. price_in q k t * capacity_of parts.places kind k t)
    (range_with_len 0 parts.day.periods)) 0 (length parts.places)
    (λ k from to. range-same (λ t. price_in p k t * capacity_of parts.places kind k t)
    (λ t. price_in q k t * capacity_of parts.places kind k t) 0 parts.day.periods
    (λ t after before. ap (λ n. n * capacity_of parts.places kind k t)
    (each k t (omega (arith, to)) (omega (arith, before)))))

-- what is said twice of the same costs
least_same : {A : Type 0} (P : A → Type 0) (f g : A → ℤ) → ((x : A) → P x → f x ≡ g x)
    → (x y : ℤ) → IsLeastAt P f x → IsLeastAt P g y → x ≡ y
least_same P f g each x y p q =
    let one = p.below q.reached.0 q.reached.1 in
    let two = q.below p.reached.0 p.reached.1 in
    let here = each q.reached.0 q.reached.1 in
    let there = each p.reached.0 p.reached.1 in
    omega (arith, ints, one, two, here, there, p.reached.2, q.reached.2)

pub rounded_same : (value : ℤ) (weight : ℕ) (x y : ℤ) → IsRoundedUp value weight x
    → IsRoundedUp value weight y → x ≡ y
rounded_same value weight x y p q =
    let one = p.below y q.reached in
    let two = q.below x p.reached in
    omega (arith, ints, one, two)

module _ (parts : Parts) (valid : IsScenario parts) (a b : PriceTable)
    (same : AreSame parts a b) where
  stay_same : (flight : Flight) (stop : Stop) (leaves : ℕ) (origin : Bool)
      → IsFlight parts.day.periods parts.places parts.tables flight
      → leaves < parts.day.periods
      → (if origin then 0
      else summed (price_in a.inside (place_at flight stop.node)) stop.time leaves)
      ≡ (if origin then 0
      else summed (price_in b.inside (place_at flight stop.node)) stop.time leaves)
  stay_same flight stop leaves true is day = refl
  stay_same flight stop leaves false is day =
      summed_same (price_in a.inside (place_at flight stop.node))
      (price_in b.inside (place_at flight stop.node)) stop.time leaves
      (λ t before. same (key_in (Capacity kind.Sector) (place_at flight stop.node) t)
      (place_there parts flight is stop.node, omega (arith, before, day)))

  stays_same : (flight : Flight) (stop : Stop) (rest : List Stop)
      → IsFlight parts.day.periods parts.places parts.tables flight
      → stop.time < parts.day.periods → IsOnward parts.day.periods flight stop rest
      → (stays_price a flight stop rest ≡ stays_price b flight stop rest)
      × (arrival_from stop rest < parts.day.periods)
  stays_same flight stop [] is day onward = (refl, day)
  stays_same flight stop (next ∷ rest) is day onward =
      let here = in_day parts.day.periods flight next valid.day.periods_from onward.1 in
      let first : stay_price a flight stop next.time ≡ stay_price b flight stop next.time =
      stay_same flight stop next.time (stop.node == 0) is here in
      let more = stays_same flight next rest is here onward.2 in
      (ap₂ (λ (m n : ℕ). m + n) first more.0, more.1)

  turn_same : (k from : ℕ) (mine : Bool) → k < length parts.connections
      → (if mine then summed (price_in a.turns k) from parts.day.periods else 0)
      ≡ (if mine then summed (price_in b.turns k) from parts.day.periods else 0)
  turn_same k from true within =
      summed_same (price_in a.turns k) (price_in b.turns k) from parts.day.periods
      (λ t before. same (key_in Connected k t) (within, before))
  turn_same k from false within = refl

  paid_same : (number leaves k : ℕ) (connections : List Connection)
      → k + length connections ≤ length parts.connections
      → turns_paid a parts.day.periods number leaves k connections
      ≡ turns_paid b parts.day.periods number leaves k connections
  paid_same number leaves k [] within = refl
  paid_same number leaves k (connection ∷ connections) within =
      ap₂ (λ (m n : ℕ). m + n)
      (turn_same k leaves (connection.second == number) (omega (arith, within)))
      (paid_same number leaves (k + 1) connections (omega (arith, within)))

  back_same : (number arrives k : ℕ) (connections : List Connection)
      → k + length connections ≤ length parts.connections
      → turns_back a parts.day.periods number arrives k connections
      ≡ turns_back b parts.day.periods number arrives k connections
  back_same number arrives k [] within = refl
  back_same number arrives k (connection ∷ connections) within =
      ap₂ (λ (m n : ℕ). m + n)
      (turn_same k (arrives + connection.turnaround) (connection.first == number)
      (omega (arith, within)))
      (back_same number arrives (k + 1) connections (omega (arith, within)))

  -- a trip of the day costs the same
  pub cost_same : (weight : ℕ) (box : Box) (number : ℕ) (stops : List Stop)
      → IsTripIn parts box number stops
      → priced_cost weight a parts number stops ≡ priced_cost weight b parts number stops
  cost_same weight box number [] is = absurd is.trip
  cost_same weight box number (stop ∷ rest) is =
      let flight = is.flight in
      let good : IsFlight parts.day.periods parts.places parts.tables flight =
      All-item (IsFlight parts.day.periods parts.places parts.tables) parts.flights number
      flight valid.flights.each is.there in
      let leaves = in_day parts.day.periods flight stop valid.day.periods_from is.trip.1 in
      let stays = stays_same flight stop rest good leaves is.trip.2 in
      let from = same (key_in (Capacity kind.Dep) flight.from stop.time)
      (has_kind-within kind.Dep parts.places flight.from good.origin, leaves) in
      let to = same (key_in (Capacity kind.Arr) flight.to (arrival_from stop rest))
      (has_kind-within kind.Arr parts.places flight.to good.destination, stays.1) in
      let paid = paid_same number stop.time 0 parts.connections (omega arith) in
      let back = back_same number (arrival_from stop rest) 0 parts.connections (omega arith) in
      subst (λ (f : Option Flight). priced_cost_of weight a parts number f (stop ∷ rest)
      ≡ priced_cost_of weight b parts number f (stop ∷ rest)) (sym is.there)
      (ap (λ z. pos weight *ℤ trip_cost parts.tables flight (stop ∷ rest) +ℤ z)
      (ap₂ (λ (m n : ℕ). pos m -ℤ pos n)
      (ap₂ (λ (m n : ℕ). m + n) (ap₂ (λ (m n : ℕ). m + n) (ap₂ (λ (m n : ℕ). m + n) from stays.0)
      paid) to)
      back))

  -- all capacities would pay the same
  limit_same : limit_price parts a ≡ limit_price parts b
  limit_same =
      ap₂ (λ (m n : ℕ). m + n)
      (ap₂ (λ (m n : ℕ). m + n)
      (capacity_same parts kind.Dep a.departures b.departures
      (λ k t within in_day. same (key_in (Capacity kind.Dep) k t) (within, in_day)))
      (capacity_same parts kind.Arr a.arrivals b.arrivals
      (λ k t within in_day. same (key_in (Capacity kind.Arr) k t) (within, in_day))))
      (capacity_same parts kind.Sector a.inside b.inside
      (λ k t within in_day. same (key_in (Capacity kind.Sector) k t) (within, in_day)))

  module _ (box : Box) (weight : ℕ) where
    sum_same : (n : ℕ) (x y : ℤ) → IsPricedSum parts box weight a n x
        → IsPricedSum parts box weight b n y → x ≡ y
    sum_same zero x y p q = p ∙ sym q
    sum_same (suc n) x y p q =
        p.4
        ∙ ap₂ (λ (m n : ℤ). m +ℤ n) (sum_same n p.0 q.0 p.2 q.2)
        (least_same (IsTripIn parts box n) (priced_cost weight a parts n)
        (priced_cost weight b parts n) (cost_same weight box n) p.1 q.1 p.3 q.3)
        ∙ sym q.4

    pub value_same : (x y : ℤ) → IsPricedValue parts box weight a x
        → IsPricedValue parts box weight b y → x ≡ y
    value_same x y p q =
        p.less
        ∙ ap₂ (λ (m : ℤ) (n : ℕ). m -ℤ pos n)
        (sum_same (length parts.flights) p.sum q.sum p.least q.least) limit_same
        ∙ sym q.less
