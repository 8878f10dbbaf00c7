-- Each round has prices, and tells a bound, whether or not it is played.
use Rattle.std.proofs.Common.{◌≡◌, ◌⊎◌, ℕ, zero, suc, ◌+◌, ◌-◌, ◌*◌, ◌/◌, ◌%◌, ◌<◌, ◌≤◌, List, [], ◌∷◌, ◌++◌, length, map, slice_get, None, Some, ℤ, pos, negsuc, neg_ℤ, ◌+ℤ◌, ◌-ℤ◌, inl, inr, refl, ap, ap₂, ◌∙◌, subst, arith}
use Rattle.std.specs.List.{range_with_len}
use Rattle.std.proofs.lemmas.List.FromFn.{get_or-map-range_with_len}
use Rattle.std.proofs.lemmas.Nat.{div-mul-add, mod-mul-add, mul-add-lt}
use Rattle.exact_sums.specs.Leasts.{IsLeastAt}
use Rattle.exact_sums.proofs.ItemFacts.{item_there}
use Rattle.flow_types.specs.declared.bound.Bound.{Bound}
use Rattle.flow_types.specs.declared.bound.Bound.TheVariants.{AtLeast, NoPlan}
use Rattle.flow_types.specs.declared.bound.PriceKind.{PriceKind}
use Rattle.flow_types.specs.declared.bound.PriceKind.TheVariants.{Capacity, Connection}
use Rattle.flow_types.specs.declared.parts.Parts.{Parts}
use Rattle.flow_types.specs.declared.place.CapKind.TheVariants as cap
use Rattle.flow_types.specs.declared.plan.Stop.{Stop}
use Rattle.flow_types.specs.Valid.{IsScenario}
use Rattle.flight_routes.specs.Inside.{IsTripIn}
use Rattle.flight_routes.specs.Prices.{Block, PriceTable, block_of, key_in, price_in, priced_cost, row_count}
use Rattle.time_windows.specs.Boxes.{Box, IsBoxOf}
use Rattle.priced_plans.specs.PricedBound.{IsRoundedUp}
use Rattle.priced_plans.specs.Usage.{traffic_of}
use Rattle.priced_plans.specs.Values.{IsPricedSum, limit_price}
use Rattle.priced_plans.specs.Valuing.{LacksTrip}
use Rattle.priced_plans.proofs.RoundingFacts.{rounded_above, rounded_below}
use Rattle.lagrange_bound.specs.Best.{HaveBounds}
use Rattle.lagrange_bound.specs.Rounds.{AreLeastTrips, IsLeastTrip, IsMovedBy, IsRoundStep, IsRoundTable, IsTableBound, cost_weight, moved_price, step_of}
use Rattle.lagrange_bound.proofs.Choices.{IsChoice}
use Rattle.lagrange_bound.proofs.TripChoices.{trip_choice}

-- an item of a list with one more
some_same : {A : Type 0} (a b : A) → Some a ≡ Some b → a ≡ b
some_same a b is = cc

none_some : {A : Type 0} (a : A) → None ≡ Some a → ⊥
none_some a is = cc

pushed : {A : Type 0} (xs : List A) (x y : A) (k : ℕ) → slice_get (xs ++ x ∷ []) k ≡ Some y
    → (slice_get xs k ≡ Some y) ⊎ ((k ≡ length xs) × (x ≡ y))
pushed [] x y zero is = inr (refl, some_same x y is)
pushed [] x y (suc k) is = absurd (none_some y is)
pushed (z ∷ zs) x y zero is = inl is
pushed (z ∷ zs) x y (suc k) is = by (pushed zs x y k is) where
  by : (slice_get zs k ≡ Some y) ⊎ ((k ≡ length zs) × (x ≡ y))
      → (slice_get (z ∷ zs) (suc k) ≡ Some y) ⊎ ((suc k ≡ length (z ∷ zs)) × (x ≡ y))
  by (inl early) = inl early
  by (inr last) = let same = last.0 in inr (omega (arith, same), last.1)

pushed_long : {A : Type 0} (xs : List A) (x : A) → length (xs ++ x ∷ []) ≡ suc (length xs)
pushed_long [] x = refl
pushed_long (z ∷ zs) x = omega (arith, pushed_long zs x)

-- a block with these prices
abbrev block_with : ℕ → ℕ → (ℕ → ℕ → ℕ) → Block
block_with rows periods price = record {
  rows = rows;
  periods = periods;
  prices = map (λ i. price (i / periods) (i % periods)) (range_with_len 0 (periods * rows));
}

block_price : (rows periods : ℕ) (price : ℕ → ℕ → ℕ) (row t : ℕ) → row < rows → t < periods
    → price_in (block_with rows periods price) row t ≡ price row t
block_price rows periods price row t within day =
    get_or-map-range_with_len (λ i. price (i / periods) (i % periods)) 0 (periods * rows)
    (row * periods + t) (row * periods + t) 0 (mul-add-lt row periods t rows within day)
    (omega arith)
    ∙ ap₂ (λ r s. price r s) (div-mul-add row periods t day) (mod-mul-add row periods t day)

rounded : (value : ℤ) → (least : ℤ) × IsRoundedUp value cost_weight least
rounded (pos zero) =
    (neg_ℤ (pos (0 / cost_weight)), rounded_below 0 cost_weight (omega arith))
rounded (pos (suc n)) = (
  pos ((suc n + (cost_weight - 1)) / cost_weight),
  rounded_above (suc n) cost_weight (omega arith) (omega arith),
)
rounded (negsuc n) =
    (neg_ℤ (pos (suc n / cost_weight)), rounded_below (suc n) cost_weight (omega arith))

module _ (parts : Parts) (valid : IsScenario parts) (box : Box) (of : IsBoxOf parts box) where
  -- the first so many flights have least trips
  record AreFirst (table : PriceTable) (count : ℕ) (trips : List (List Stop)) : Type 0 where
    pub whole : length trips ≡ count
    pub each : (k : ℕ) (trip : List Stop) → slice_get trips k ≡ Some trip
        → IsLeastTrip parts box table k trip

  one_more : (table : PriceTable) (count : ℕ) (trips : List (List Stop)) (trip : List Stop)
      → AreFirst table count trips → IsLeastTrip parts box table count trip
      → AreFirst table (suc count) (trips ++ trip ∷ [])
  one_more table count trips trip are is = record {
    whole = let long = are.whole in omega (arith, pushed_long trips trip, long);
    each = λ k other at. by k other (pushed trips trip other k at);
  }
    where
      by : (k : ℕ) (other : List Stop)
          → (slice_get trips k ≡ Some other) ⊎ ((k ≡ length trips) × (trip ≡ other))
          → IsLeastTrip parts box table k other
      by k other (inl early) = are.each k other early
      by k other (inr last) =
          let long = are.whole in
          let place = last.0 in
          let here : count ≡ k = omega (arith, place, long) in
          subst (λ n. IsLeastTrip parts box table n other) here
          (subst (IsLeastTrip parts box table count) last.1 is)

  first_or_lacks : (table : PriceTable) (count : ℕ) → count ≤ length parts.flights
      → ((trips : List (List Stop)) × AreFirst table count trips) ⊎ LacksTrip parts box
  first_or_lacks table zero few =
      inl ([], record { whole = refl; each = λ k trip is. absurd (none_some trip is) })
  first_or_lacks table (suc count) few =
      let item = item_there parts.flights count (omega (arith, few)) in
      by (first_or_lacks table count (omega (arith, few)))
      (trip_choice parts valid box of count item.0 item.1 table)
    where
      by : ((trips : List (List Stop)) × AreFirst table count trips) ⊎ LacksTrip parts box
          → IsChoice (priced_cost cost_weight table parts count) (IsTripIn parts box count)
          → ((trips : List (List Stop)) × AreFirst table (suc count) trips) ⊎ LacksTrip parts box
      by (inr lacks) choice = inr lacks
      by (inl first) (inl (trip, is)) =
          inl (first.0 ++ trip ∷ [], one_more table count first.0 trip first.1 is)
      by (inl first) (inr none) =
          inr (record { number = count; within = omega (arith, few); none = none })

  least_or_lacks : (table : PriceTable)
      → ((trips : List (List Stop)) × AreLeastTrips parts box table trips) ⊎ LacksTrip parts box
  least_or_lacks table = by (first_or_lacks table (length parts.flights) (omega arith)) where
    by : ((trips : List (List Stop)) × AreFirst table (length parts.flights) trips)
        ⊎ LacksTrip parts box
        → ((trips : List (List Stop)) × AreLeastTrips parts box table trips) ⊎ LacksTrip parts box
    by (inl first) = inl (first.0, record { whole = first.1.whole; each = first.1.each })
    by (inr lacks) = inr lacks

  -- what least trips tell
  sum_there : (table : PriceTable) (trips : List (List Stop)) → AreLeastTrips parts box table trips
      → (count : ℕ) → count ≤ length parts.flights
      → (sum : ℤ) × IsPricedSum parts box cost_weight table count sum
  sum_there table trips are zero few = (pos 0, refl)
  sum_there table trips are (suc count) few =
      let before = sum_there table trips are count (omega (arith, few)) in
      let long = are.whole in
      let item = item_there trips count (omega (arith, few, long)) in
      let is = are.each count item.0 item.1 in
      let least = priced_cost cost_weight table parts count item.0 in
      let at : IsLeastAt (IsTripIn parts box count) (priced_cost cost_weight table parts count)
      least = record { reached = (item.0, is.inside, refl); below = is.least } in
      (before.0 +ℤ least, (before.0, least, before.1, at, refl))

  tells : (table : PriceTable) → (bound : Bound) × IsTableBound parts box table bound
  tells table = by (least_or_lacks table) where
    by : ((trips : List (List Stop)) × AreLeastTrips parts box table trips) ⊎ LacksTrip parts box
        → (bound : Bound) × IsTableBound parts box table bound
    by (inr lacks) = (NoPlan, lacks)
    by (inl (trips, are)) =
        let sum = sum_there table trips are (length parts.flights) (omega arith) in
        let value = sum.0 -ℤ pos (limit_price parts table) in
        let up = rounded value in
        (AtLeast up.0, (value, record { sum = sum.0; least = sum.1; less = refl }, up.1))

  -- the prices after a round
  abbrev moved_in : PriceTable → List (List Stop) → ℕ → PriceKind → Block
  moved_in table trips step kind =
      block_with (row_count parts kind) parts.day.periods
      (λ row t. moved_price parts (traffic_of parts trips) step (key_in kind row t)
      (price_in (block_of kind table) row t))

  abbrev moved_table : PriceTable → List (List Stop) → ℕ → PriceTable
  moved_table table trips step = record {
    departures = moved_in table trips step (Capacity cap.Dep);
    arrivals = moved_in table trips step (Capacity cap.Arr);
    inside = moved_in table trips step (Capacity cap.Sector);
    turns = moved_in table trips step Connection;
  }

  moved_block : (table : PriceTable) (trips : List (List Stop)) (step : ℕ) (kind : PriceKind)
      → block_of kind (moved_table table trips step) ≡ moved_in table trips step kind
  moved_block table trips step (Capacity cap.Dep) = refl
  moved_block table trips step (Capacity cap.Arr) = refl
  moved_block table trips step (Capacity cap.Sector) = refl
  moved_block table trips step Connection = refl

  moved_there : (table : PriceTable) (trips : List (List Stop)) (step : ℕ)
      → IsMovedBy parts trips step table (moved_table table trips step)
  moved_there table trips step = record {
    size = record {
      departures = record { wide = refl; long = refl };
      arrivals = record { wide = refl; long = refl };
      inside = record { wide = refl; long = refl };
      turns = record { wide = refl; long = refl };
    };
    each = λ key within.
        ap (λ (b : Block). price_in b key.row key.period) (moved_block table trips step key.kind)
        ∙ block_price (row_count parts key.kind) parts.day.periods
        (λ row t. moved_price parts (traffic_of parts trips) step (key_in key.kind row t)
        (price_in (block_of key.kind table) row t))
        key.row key.period within.0 within.1;
  }

  abbrev free_block : ℕ → Block
  free_block rows = record { rows = rows; periods = parts.day.periods; prices = [] }

  abbrev first_table : PriceTable
  first_table = record {
    departures = free_block (length parts.places);
    arrivals = free_block (length parts.places);
    inside = free_block (length parts.places);
    turns = free_block (length parts.connections);
  }

  none_in : (kind : PriceKind) (row t : ℕ) → price_in (block_of kind first_table) row t ≡ 0
  none_in (Capacity cap.Dep) row t = refl
  none_in (Capacity cap.Arr) row t = refl
  none_in (Capacity cap.Sector) row t = refl
  none_in Connection row t = refl

  round_there : (round : ℕ) → (table : PriceTable) × IsRoundTable parts box round table
  round_there zero = (
    first_table,
    (
      record {
        departures = record { wide = refl; long = refl };
        arrivals = record { wide = refl; long = refl };
        inside = record { wide = refl; long = refl };
        turns = record { wide = refl; long = refl };
      },
      λ key. none_in key.kind key.row key.period,
    ),
  )
  round_there (suc before) =
      let last = round_there before in by last.0 last.1 (least_or_lacks last.0)
    where
      by : (table : PriceTable) → IsRoundTable parts box before table
          → ((trips : List (List Stop)) × AreLeastTrips parts box table trips)
          ⊎ LacksTrip parts box
          → (new : PriceTable) × IsRoundTable parts box (suc before) new
      by table is (inl (trips, are)) =
          let new = moved_table table trips (step_of (suc before)) in
          let step : IsRoundStep parts box (suc before) table new =
          inl (
            trips,
            record {
              least = are;
              moved = moved_there table trips (step_of (suc before));
            },
          )
          in
          (new, (table, is, step))
      by table is (inr lacks) =
          let step : IsRoundStep parts box (suc before) table table =
          inr (record { none = lacks; same = refl }) in
          (table, (table, is, step))

  -- so each round tells a bound
  pub rounds_there : (rounds : ℕ) → HaveBounds parts box rounds
  rounds_there rounds = λ round within.
      let last = round_there round in
      let told = tells last.0 in
      (told.0, (last.0, last.1, told.1))
