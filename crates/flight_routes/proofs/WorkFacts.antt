-- Ways at the rates of a flight are its trips in the box.
use Rattle.std.proofs.Common.{◌≡◌, ◌⊎◌, ◌*◌, ℕ, zero, suc, ◌+◌, ◌<◌, ◌≤◌, ◌^◌, List, [], ◌∷◌, ◌++◌, take, drop, length, get_or, replicate, slice_get, Option, Some, None, IfSome, MatchOption, ℤ, pos, ◌≤ℤ◌, sym, ap, ◌∙◌, subst, inl, inr, arith, refl}
use Rattle.std.proofs.lemmas.Bool.{cases_lt}
use Rattle.std.proofs.Math.Seq.{take-append_seam}
use Rattle.std.proofs.lemmas.Int.{ints}
use Rattle.std.proofs.lemmas.List.{get_or-replicate, get_or_past, length-replicate}
use Rattle.exact_sums.proofs.ItemFacts.{All-item}
use Rattle.exact_sums.proofs.LeastFacts.{first_said, least_said}
use Rattle.exact_sums.specs.Leasts.{IsFirstLeast, IsLeast}
use Rattle.flow_types.specs.declared.flight.Flight.{Flight}
use Rattle.flow_types.specs.declared.parts.Parts.{Parts}
use Rattle.flow_types.specs.declared.plan.Stop.{Stop}
use Rattle.flow_types.specs.Costs.{trip_cost_at}
use Rattle.flow_types.specs.Limits.{most_nodes, most_periods}
use Rattle.flow_types.specs.Trips.{IsTrip}
use Rattle.flow_types.specs.Valid.{IsFlight, IsScenario}
use Rattle.time_windows.specs.declared.access.Access.{Access}
use Rattle.time_windows.specs.declared.access.Window.{Window}
use Rattle.time_windows.specs.declared.ends.End.TheVariants.{Arrival, Departure}
use Rattle.time_windows.specs.Boxes.{Box, IsBoxOf, IsInWindow, IsTripInBox, IsWindowWithin, root_access, root_box, root_row}
use Rattle.time_windows.proofs.BoxFacts.{trip_in_same}
use Rattle.flight_routes.specs.Filling.{AreSmallAt, IsFitTable, IsPriceTable, OnlyEnd}
use Rattle.flight_routes.specs.FitRates.{AreFitRates}
use Rattle.flight_routes.specs.Fits.{FitsAs, IsTripThatFits}
use Rattle.flight_routes.specs.PricedFitRates.{AreExchanged, ArePricedFitRates, if_both}
use Rattle.flight_routes.specs.Inside.{IsTripIn}
use Rattle.flight_routes.specs.Prices.{PriceTable, priced_cost, priced_cost_of}
use Rattle.flight_routes.specs.RateLists.{IsBlank, RateLists, place_of, rates_of}
use Rattle.flight_routes.specs.Rates.{AreClear, IsWay, Rates, whole_cost}
use Rattle.exact_sums.specs.Near.{IsNear}
use Rattle.flight_routes.specs.Ready.{AreRising, AreSmall, AreWindows, IsReady, IsUpward, row_of, IsTaken}
use Rattle.flight_routes.specs.TripOrder.{IsNoLater}
use Rattle.flight_routes.specs.TripRates.{AreTripRates}
use Rattle.flight_routes.proofs.FitFacts.{allowed_cost, allowed_fits, fits_allowed}
use Rattle.flight_routes.proofs.PricedFitFacts.{fits_guide, priced_fit_cost, priced_fit_fits, there_if}
use Rattle.flight_routes.proofs.TripFacts.{IsRowOf, in_day, in_hours, trip_way, way_trip}
use Rattle.flight_routes.proofs.TripRateFacts.{all_allowed, priced_is}
use Rattle.std.proofs.lemmas.Option.{slice_get_read}
use Rattle.plan_rules.specs.Tally.{Tally}
use Rattle.plan_rules.specs.Loads.{AreLoads}
use Rattle.plan_rules.proofs.CountFacts.{AreTripsOrNone-length}

-- what a search for the least answers of ways, with the first of those that reach it, said of trips
module _ {A : Type 0} (P Q : A → Type 0) (cost price : A → ℤ) (IsNoLater : A → A → Type 0)
    (to : (x : A) → P x → Q x × (price x ≡ cost x)) (back : (x : A) → Q x → P x) where
  first_if : (least : Option ℤ) (Empty : Type 0) (chosen : A)
      → MatchOption least Empty (λ l. IsFirstLeast P cost IsNoLater chosen)
      → MatchOption least Empty (λ l. IsFirstLeast Q price IsNoLater chosen)
  first_if None Empty chosen is = is
  first_if (Some l) Empty chosen is = first_said P Q cost price to back IsNoLater chosen is

-- what a box says of each node of a flight
pub record IsRowIn (parts : Parts) (box : Box) (number : ℕ) (flight : Flight) (row : ℕ → Access)
    : Type 0 where
  pub valid : IsScenario parts
  pub of : IsBoxOf parts box
  pub here : slice_get parts.flights number ≡ Some flight
  pub same : (n : ℕ) → row n ≡ box number n

-- and within a span of the day's periods
pub record IsRead (parts : Parts) (box : Box) (number : ℕ) (flight : Flight) (span : Window)
    (row : ℕ → Access) : Type 0 where
  pub own : IsRowIn parts box number flight row
  pub windows : AreWindows span row
  pub day : span.hi < parts.day.periods

module _ {parts : Parts} {box : Box} {number : ℕ} {flight : Flight} {row : ℕ → Access}
    (own : IsRowIn parts box number flight row) where
  the_flight : IsFlight parts.day.periods parts.places parts.tables flight
  the_flight = All-item (IsFlight parts.day.periods parts.places parts.tables) parts.flights number
      flight own.valid.flights.each own.here

  root_is : (n : ℕ) → root_box parts number n ≡ root_access parts.day.periods flight n
  root_is n = ap (λ f. root_row parts.day.periods f n) own.here

  row_of_box : IsRowOf parts.day.periods flight row
  row_of_box = record {
    windows = λ n.
        subst (λ (a : Access). IsWindowWithin (row n).window a.window) (root_is n)
        (subst (λ (a : Access). IsWindowWithin a.window (root_box parts number n).window)
        (sym (own.same n)) (own.of.windows number n));
    marks = λ n must.
        ap (λ (a : Access). a.must) (own.same n)
        ∙ own.of.marks number n (ap (λ (a : Access). a.must) (root_is n) ∙ must);
    nodes = λ n none.
        ap (λ (a : Access). a.must) (own.same n)
        ∙ own.of.nodes number n (ap (λ (a : Access). a.window) (root_is n) ∙ none);
  }

  inside_row : (stops : List Stop) → IsTripIn parts box number stops
      → IsTrip parts.day.periods flight stops × IsTripInBox row stops
  inside_row stops is =
      let e : is.flight ≡ flight = cc in (
        subst (λ (f : Flight). IsTrip parts.day.periods f stops) e is.trip,
        trip_in_same (box number) row stops (λ n. sym (own.same n)) is.inside,
      )

  row_inside : (stops : List Stop) → IsTrip parts.day.periods flight stops → IsTripInBox row stops
      → IsTripIn parts box number stops
  row_inside stops trip inside = record {
    flight = flight;
    there = own.here;
    trip = trip;
    inside = trip_in_same row (box number) stops own.same inside;
  }

  -- at the rates of prices
  module _ {weight : ℕ} {table : PriceTable} {span : Window} {rates : Rates}
      (windows : AreWindows span row)
      (are : AreTripRates weight table parts number flight row span rates) where
    priced_to : (stops : List Stop) → IsWay flight row rates stops
        → IsTripIn parts box number stops
        × (priced_cost weight table parts number stops ≡ whole_cost rates stops)
    priced_to [] way = absurd way
    priced_to (stop ∷ rest) way =
        let trip = way_trip parts.day.periods flight row the_flight.route.each_leg row_of_box rates
        (stop ∷ rest) way in (
          row_inside (stop ∷ rest) trip.0 trip.1,
          ap (λ f. priced_cost_of weight table parts number f (stop ∷ rest)) own.here
              ∙ sym (priced_is weight table parts number flight the_flight.route.each_leg
              own.valid.day.periods_from row span windows.within rates are stop rest trip.0 trip.1),
        )

    priced_back : (stops : List Stop) → IsTripIn parts box number stops
        → IsWay flight row rates stops
    priced_back [] is = absurd is.trip
    priced_back (stop ∷ rest) is =
        let trip = inside_row (stop ∷ rest) is in
        trip_way parts.day.periods flight row the_flight.route.each_leg row_of_box rates
        (stop ∷ rest) trip.0 trip.1
        (all_allowed weight table parts number flight the_flight.route.each_leg
        own.valid.day.periods_from row span windows.within rates are stop rest trip.0 trip.1)

    pub priced_least : (least : Option ℤ)
        → IsLeast (IsWay flight row rates) (whole_cost rates) least
        → IsLeast (IsTripIn parts box number) (priced_cost weight table parts number) least
    priced_least least = least_said (IsWay flight row rates) (IsTripIn parts box number)
        (whole_cost rates) (priced_cost weight table parts number) priced_to priced_back least

    pub priced_first : (least : Option ℤ) (stops : List Stop)
        → MatchOption least (stops ≡ [])
        (λ l. IsFirstLeast (IsWay flight row rates) (whole_cost rates) IsNoLater stops)
        → MatchOption least (stops ≡ []) (λ l. IsFirstLeast (IsTripIn parts box number)
        (priced_cost weight table parts number) IsNoLater stops)
    priced_first least stops =
        first_if (IsWay flight row rates) (IsTripIn parts box number) (whole_cost rates)
        (priced_cost weight table parts number) IsNoLater priced_to priced_back
        least (stops ≡ []) stops

  -- beside the loads
  module _ {trips : List (List Stop)} {span : Window} {rates : Rates}
      (long : number < length trips) (windows : AreWindows span row)
      (are : AreFitRates parts trips number flight row span rates) where
    fit_to : (stops : List Stop) → IsWay flight row rates stops
        → IsTripThatFits parts box trips number stops
        × (trip_cost_at parts.tables (slice_get parts.flights number) stops
        ≡ whole_cost rates stops)
    fit_to [] way = absurd way
    fit_to (stop ∷ rest) way =
        let trip = way_trip parts.day.periods flight row the_flight.route.each_leg row_of_box rates
        (stop ∷ rest) way in (
          record {
            inside = row_inside (stop ∷ rest) trip.0 trip.1;
            fits = λ f there.
                let e : flight ≡ f = cc in
                subst (λ (g : Flight). FitsAs parts trips number g (stop ∷ rest)) e
                (allowed_fits parts own.valid trips number flight own.here long row span
                windows.within rates are stop rest trip.0 trip.1 trip.2);
          },
          ap (λ f. trip_cost_at parts.tables f (stop ∷ rest)) own.here
              ∙ sym (allowed_cost parts own.valid trips number flight own.here long row span
              windows.within rates are stop rest trip.0 trip.1 trip.2),
        )

    fit_back : (stops : List Stop)
        → IsTripThatFits parts box trips number stops
        → IsWay flight row rates stops
    fit_back [] is = absurd is.inside.trip
    fit_back (stop ∷ rest) is =
        let trip = inside_row (stop ∷ rest) is.inside in
        trip_way parts.day.periods flight row the_flight.route.each_leg row_of_box rates
        (stop ∷ rest) trip.0 trip.1
        (fits_allowed parts own.valid trips number flight own.here long row span windows.within
        rates are stop rest trip.0 trip.1 (is.fits flight own.here))

    pub fit_least : (least : Option ℤ)
        → IsLeast (IsWay flight row rates) (whole_cost rates) least
        → IsLeast (IsTripThatFits parts box trips number)
        (trip_cost_at parts.tables (slice_get parts.flights number)) least
    fit_least least = least_said (IsWay flight row rates)
        (IsTripThatFits parts box trips number)
        (whole_cost rates) (trip_cost_at parts.tables (slice_get parts.flights number)) fit_to
        fit_back least

    pub fit_first : (least : Option ℤ) (stops : List Stop)
        → MatchOption least (stops ≡ [])
        (λ l. IsFirstLeast (IsWay flight row rates) (whole_cost rates) IsNoLater stops)
        → MatchOption least (stops ≡ []) (λ l. IsFirstLeast (IsTripThatFits parts box trips number)
        (trip_cost_at parts.tables (slice_get parts.flights number)) IsNoLater stops)
    fit_first least stops =
        first_if (IsWay flight row rates) (IsTripThatFits parts box trips number) (whole_cost rates)
        (trip_cost_at parts.tables (slice_get parts.flights number)) IsNoLater fit_to fit_back
        least (stops ≡ []) stops

  -- under prices, beside the loads
  module _ {weight : ℕ} {table : PriceTable} {trips : List (List Stop)} {span : Window}
      {fit price rates : Rates} (long : number < length trips) (windows : AreWindows span row)
      (fit_are : AreFitRates parts trips number flight row span fit)
      (price_are : AreTripRates weight table parts number flight row span price)
      (priced_fit_are : ArePricedFitRates flight row fit price rates) where
    priced_fit_to : (stops : List Stop) → IsWay flight row rates stops
        → IsTripThatFits parts box trips number stops
        × (priced_cost weight table parts number stops ≡ whole_cost rates stops)
    priced_fit_to stops way =
        let fits = (fit_to long windows fit_are stops
        (priced_fit_fits flight row fit price rates priced_fit_are stops way)).0 in
        let cost = (priced_to windows price_are stops
        (priced_back windows price_are stops fits.inside)).1 in
        (fits, cost ∙ sym (priced_fit_cost flight row fit price rates priced_fit_are stops way))

    priced_fit_back : (stops : List Stop) → IsTripThatFits parts box trips number stops
        → IsWay flight row rates stops
    priced_fit_back stops is =
        fits_guide flight row fit price rates priced_fit_are
        (λ t window. there_if (price.leaves t) _ (price_are.leaves t window))
        (λ n t last window. there_if (price.arrives t) _ (price_are.arrives n t last window))
        stops (fit_back long windows fit_are stops is)

    pub priced_fit_least : (least : Option ℤ)
        → IsLeast (IsWay flight row rates) (whole_cost rates) least
        → IsLeast (IsTripThatFits parts box trips number)
        (priced_cost weight table parts number) least
    priced_fit_least least = least_said (IsWay flight row rates)
        (IsTripThatFits parts box trips number) (whole_cost rates)
        (priced_cost weight table parts number) priced_fit_to priced_fit_back least

    pub priced_fit_first : (least : Option ℤ) (stops : List Stop)
        → MatchOption least (stops ≡ [])
        (λ l. IsFirstLeast (IsWay flight row rates) (whole_cost rates) IsNoLater stops)
        → MatchOption least (stops ≡ []) (λ l. IsFirstLeast (IsTripThatFits parts box trips number)
        (priced_cost weight table parts number) IsNoLater stops)
    priced_fit_first least stops =
        first_if (IsWay flight row rates) (IsTripThatFits parts box trips number) (whole_cost rates)
        (priced_cost weight table parts number) IsNoLater priced_fit_to priced_fit_back
        least (stops ≡ []) stops

-- what is read of a list of one number
read_replicate : {X : Type 0} (n k : ℕ) (x : X) → (k < n) ⊎ (n ≤ k) → get_or (replicate n x) k x ≡ x
read_replicate n k x (inl within) = get_or-replicate n k x x within
read_replicate n k x (inr past) =
    let long = length-replicate n x in
    get_or_past (replicate n x) k x (omega (arith, long, past))

-- the tables are of rates that least ways may be found at
price_clear : (flight : Flight) (lists : RateLists) (span : Window) → span.hi < most_periods
    → IsPriceTable lists → AreClear flight span (rates_of lists)
price_clear flight lists span few table n inside t after day =
    let cells = most_nodes * most_periods in
    let at = λ (k : ℕ). ap (λ c. get_or c k most_periods) table.clear
    ∙ read_replicate cells k most_periods (cases_lt k cells) in
    let one : get_or lists.clear (place_of n t) most_periods ≡ most_periods = at (place_of n t) in
    let two : get_or lists.clear (place_of n (t + 1)) most_periods ≡ most_periods =
    at (place_of n (t + 1)) in
    inr (omega (arith, one, few, day), one ∙ sym two)

free_is : (lists : RateLists) → IsFitTable lists → (n t : ℕ) → (rates_of lists).paid n t ≡ pos 0
free_is lists table n t =
    ap (λ costs. get_or costs (place_of n t) (pos 0)) table.free
    ∙ read_replicate (most_nodes * most_periods) (place_of n t) (pos 0)
    (cases_lt (place_of n t) (most_nodes * most_periods))

free_small : (lists : RateLists) → IsFitTable lists → (n t : ℕ)
    → IsNear (2 ^ 100) ((rates_of lists).paid n t)
free_small lists table n t =
    subst (IsNear (2 ^ 100)) (sym (free_is lists table n t))
    (record { low = omega (arith, ints); high = omega (arith, ints) })

-- what is paid at a node never falls
pub fit_rising : (flight : Flight) (span : Window) (lists : RateLists) → IsFitTable lists
    → AreRising flight span (rates_of lists)
fit_rising flight span lists table n t u inside from later to =
    omega (arith, ints, free_is lists table n t, free_is lists table n u)

pub price_rising : {weight : ℕ} {table : PriceTable} {parts : Parts} {number : ℕ}
    {flight : Flight} {row : ℕ → Access} {span : Window} {rates : Rates}
    → AreTripRates weight table parts number flight row span rates → span.hi < parts.day.periods
    → AreRising flight span rates
price_rising are day zero t u inside from later to =
    omega (arith, ints, are.unpaid t u later (omega (arith, to, day)))
price_rising are day (suc n) t u inside from later to =
    omega (arith, ints, are.paid (suc n) t u (omega arith) inside from later to)

module _ {parts : Parts} {box : Box} {number : ℕ} {flight : Flight} {row : ℕ → Access}
    (own : IsRowIn parts box number flight row) where
  -- windows within the day
  pub day_windows : (n t : ℕ) → IsInWindow (row n).window t → t < parts.day.periods
  day_windows n t window =
      in_day parts.day.periods flight (record { node = n; time = t }) own.valid.day.periods_from
      (in_hours parts.day.periods flight (record { node = n; time = t }) (row n).window
      ((row_of_box own).windows n) window)

  network : IsUpward flight
  network =
      let route = (the_flight own).route in
      record {
        nodes_from = omega (arith, route.nodes_from);
        nodes_to = route.nodes_to;
        legs = route.each_leg;
      }

module _ {parts : Parts} {box : Box} {number : ℕ} {flight : Flight} {span : Window}
    {row : ℕ → Access} (is : IsRead parts box number flight span row) where
  few : span.hi < most_periods
  few = let day = is.day in let most = is.own.valid.day.periods_to in omega (arith, day, most)

-- what a table is ready for, told of the span that it was filled for
module _ {parts : Parts} {box : Box} {number : ℕ} {flight : Flight} {span : Window}
    {row : ℕ → Access} (is : IsRead parts box number flight span row) (lists : RateLists) where
  pub ready : lists.span ≡ span → AreClear flight span (rates_of lists)
      → AreSmall (rates_of lists) → IsReady flight row lists.span (rates_of lists)
  ready at clear small =
      subst (λ s. IsReady flight row s (rates_of lists)) (sym at) (record {
        day = record { few = few is; small = small };
        clear = clear;
        windows = is.windows;
        network = network is.own;
      })

  pub price_ready : lists.span ≡ span → IsPriceTable lists
      → IsReady flight row lists.span (rates_of lists)
  price_ready at table =
      ready at (price_clear flight lists span (few is) table)
      (record { leaves = table.leaves; arrives = table.arrives; paid = table.paid })

  pub fit_ready : lists.span ≡ span → AreClear flight span (rates_of lists) → IsFitTable lists
      → IsReady flight row lists.span (rates_of lists)
  fit_ready at clear table =
      ready at clear (record {
        leaves = table.leaves;
        arrives = table.arrives;
        paid = free_small lists table;
      })

-- The rates of prices where trips fit: the departures, then the arrivals are closed, and then what
-- is clear is taken from the table beside the loads.
module _ {first closed_one closed_both fits guide other : RateLists}
    (one : OnlyEnd Departure first closed_one) (two : OnlyEnd Arrival closed_one closed_both)
    (exchanged : AreExchanged closed_both fits guide other) where
  paid_same : guide.paid ≡ first.paid
  paid_same = exchanged.paid ∙ two.paid ∙ one.paid

  leaves_same : guide.leaves ≡ closed_one.leaves
  leaves_same = exchanged.leaves ∙ two.leaves

  pub priced_fit_rates : (flight : Flight) (row : ℕ → Access) (last : ℕ)
      → last + 1 ≡ length flight.nodes
      → ((t : ℕ) → IsInWindow (row 0).window t
      → (rates_of closed_one).leaves t
      ≡ if_both ((rates_of fits).leaves t) ((rates_of first).leaves t))
      → ((t : ℕ) → IsInWindow (row last).window t
      → (rates_of closed_both).arrives t
      ≡ if_both ((rates_of fits).arrives t) ((rates_of closed_one).arrives t))
      → ArePricedFitRates flight row (rates_of fits) (rates_of first) (rates_of guide)
  priced_fit_rates flight row last end_is leaving arriving = record {
    leaves = λ t window.
        ap (λ (xs : List (Option ℤ)). get_or xs t None) leaves_same ∙ leaving t window;
    arrives = λ n t at_last window.
        let same : n ≡ last = omega (arith, at_last, end_is) in
        ap (λ (xs : List (Option ℤ)). get_or xs t None) exchanged.arrives
        ∙ arriving t (subst (λ (k : ℕ). IsInWindow (row k).window t) same window)
        ∙ ap (λ (xs : List (Option ℤ)). if_both ((rates_of fits).arrives t) (get_or xs t None))
        one.arrives;
    paid = λ n t. ap (λ (xs : List ℤ). get_or xs (place_of n t) (pos 0)) paid_same;
    clear = λ n t.
        ap (λ (xs : List ℕ). get_or xs (place_of n t) most_periods) exchanged.clear;
  }

  pub priced_fit_rising : (flight : Flight) (span : Window) → AreRising flight span (rates_of first)
      → AreRising flight span (rates_of guide)
  priced_fit_rising flight span rising =
      subst (λ (paid : List ℤ). (n t u : ℕ) → n + 1 < length flight.nodes → span.lo ≤ t → t ≤ u
      → u ≤ span.hi → get_or paid (place_of n t) (pos 0) ≤ℤ get_or paid (place_of n u) (pos 0))
      (sym paid_same) rising

  pub priced_fit_small : IsPriceTable first
      → (AreSmallAt Departure first → AreSmallAt Departure closed_one)
      → (AreSmallAt Arrival closed_one → AreSmallAt Arrival closed_both)
      → AreSmall (rates_of guide)
  priced_fit_small table within within_too = record {
    leaves = subst (λ (xs : List (Option ℤ)). (t : ℕ)
        → IfSome (get_or xs t None) (IsNear (2 ^ 110)))
        (sym leaves_same) (within table.leaves);
    arrives = subst
        (λ (xs : List (Option ℤ)). (t : ℕ) → IfSome (get_or xs t None) (IsNear (2 ^ 110)))
        (sym exchanged.arrives)
        (within_too (subst
        (λ (xs : List (Option ℤ)). (t : ℕ) → IfSome (get_or xs t None) (IsNear (2 ^ 110)))
        (sym one.arrives) table.arrives));
    paid = subst
        (λ (xs : List ℤ). (n t : ℕ) → IsNear (2 ^ 100) (get_or xs (place_of n t) (pos 0)))
        (sym paid_same) table.paid;
  }

  -- both tables, when what is clear is given back
  module _ {final rest : RateLists} (again : AreExchanged guide other final rest) where
    pub price_table_back : IsPriceTable first
        → (AreSmallAt Departure first → AreSmallAt Departure closed_one)
        → (AreSmallAt Arrival closed_one → AreSmallAt Arrival closed_both) → IsPriceTable final
    price_table_back table within within_too =
        let small = priced_fit_small table within within_too in
        let paid = again.paid ∙ paid_same in
        record {
          free = subst (λ (xs : List ℤ). (t : ℕ) → t < most_periods
              → get_or xs (place_of 0 t) (pos 0) ≡ pos 0) (sym paid) table.free;
          clear = again.clear ∙ exchanged.back ∙ two.clear ∙ one.clear ∙ table.clear;
          leaves = subst (λ (xs : List (Option ℤ)). (t : ℕ)
              → IfSome (get_or xs t None) (IsNear (2 ^ 110))) (sym again.leaves) small.leaves;
          arrives = subst (λ (xs : List (Option ℤ)). (t : ℕ)
              → IfSome (get_or xs t None) (IsNear (2 ^ 110))) (sym again.arrives) small.arrives;
          paid = subst (λ (xs : List ℤ). (n t : ℕ)
              → IsNear (2 ^ 100) (get_or xs (place_of n t) (pos 0))) (sym paid) table.paid;
        }

    pub fit_table_back : IsFitTable fits → IsFitTable rest
    fit_table_back table =
        let clear = again.back ∙ exchanged.clear in
        record {
          cells = ap length clear ∙ table.cells;
          free = again.other_paid ∙ exchanged.other_paid ∙ table.free;
          first = subst (λ (xs : List ℕ). (t : ℕ) → t < most_periods
              → get_or xs (place_of 0 t) most_periods ≡ most_periods) (sym clear) table.first;
          leaves = subst (λ (xs : List (Option ℤ)). (t : ℕ)
              → IfSome (get_or xs t None) (IsNear (2 ^ 110)))
              (sym (again.other_leaves ∙ exchanged.other_leaves)) table.leaves;
          arrives = subst (λ (xs : List (Option ℤ)). (t : ℕ)
              → IfSome (get_or xs t None) (IsNear (2 ^ 110)))
              (sym (again.other_arrives ∙ exchanged.other_arrives)) table.arrives;
        }

  pub priced_fit_clear : (flight : Flight) (span : Window) → AreClear flight span (rates_of fits)
      → AreClear flight span (rates_of guide)
  priced_fit_clear flight span clear =
      subst (λ (xs : List ℕ). (n : ℕ) → n + 1 < length flight.nodes → (t : ℕ) → span.lo ≤ t
      → t < span.hi → (get_or xs (place_of n t) most_periods ≡ t)
      ⊎ ((t < get_or xs (place_of n t) most_periods)
      × (get_or xs (place_of n t) most_periods
      ≡ get_or xs (place_of n (t + 1)) most_periods)))
      (sym exchanged.clear) clear

-- What is read of a whole block that was written through a slice: the row that was taken, with the
-- span of its windows, which a table has too.
module _ {parts : Parts} {box : Box} {number : ℕ} {span : Window} {news : List Access}
    (taken : IsTaken parts box number span news) where
  pub read_windows : {at : Window} {len : ℕ} {read : List Access} → at ≡ span
      → (items : List Access) → read ≡ take len (news ++ drop (length news) items)
      → len ≡ most_nodes → (read ≡ news) × AreWindows at (row_of read)
  read_windows {at} {len} {read} same items is long =
      let whole : read ≡ news =
      is ∙ ap (λ n. take n (news ++ drop (length news) items)) (long ∙ sym taken.long)
      ∙ take-append_seam news (drop (length news) items) in (
        whole,
        subst (λ (s : Window). AreWindows s (row_of read)) (sym same)
            (subst (λ xs. AreWindows span (row_of xs)) (sym whole) taken.windows),
      )

  pub is_read : {at : Window} {len : ℕ} {read : List Access} {flight : Flight} → at ≡ span
      → (items : List Access) → read ≡ take len (news ++ drop (length news) items)
      → len ≡ most_nodes → IsScenario parts → IsBoxOf parts box → number < length parts.flights
      → flight ≡ get_or parts.flights number flight
      → IsRead parts box number flight at (row_of read)
  is_read {at} {len} {read} {flight} same items is long valid of within here =
      let back = read_windows same items is long in
      record {
        own = record {
          valid = valid;
          of = of;
          here = slice_get_read parts.flights (length parts.flights) number flight refl within here;
          same = λ n. ap (λ xs. row_of xs n) back.0 ∙ taken.row n;
        };
        windows = back.1;
        day = subst (λ (s : Window). s.hi < parts.day.periods) (sym same) taken.day;
      }

-- a flight has a trip among those that are counted
pub trip_there : {parts : Parts} {trips : List (List Stop)} {loads : Tally} {number : ℕ}
    → AreLoads parts trips loads → number < length parts.flights → number < length trips
trip_there {parts} {trips} are within =
    omega (arith, within, AreTripsOrNone-length parts.day.periods parts.flights trips are.each)

-- a new table serves for both
blank_small : (costs : List (Option ℤ)) → costs ≡ replicate most_periods None → (t : ℕ)
    → IfSome (get_or costs t None) (IsNear (2 ^ 110))
blank_small costs is t =
    subst (λ (c : Option ℤ). IfSome c (IsNear (2 ^ 110)))
    (sym (ap (λ xs. get_or xs t None) is
    ∙ read_replicate most_periods t (no_cost) (cases_lt t most_periods))) tt
  where
    no_cost : Option ℤ
    no_cost = None

blank_paid : (paid : List ℤ) → paid ≡ replicate (most_nodes * most_periods) (pos 0) → (k : ℕ)
    → get_or paid k (pos 0) ≡ pos 0
blank_paid paid is k =
    ap (λ xs. get_or xs k (pos 0)) is
    ∙ read_replicate (most_nodes * most_periods) k (pos 0)
    (cases_lt k (most_nodes * most_periods))

blank_clear : (clear : List ℕ) → clear ≡ replicate (most_nodes * most_periods) most_periods
    → (k : ℕ) → get_or clear k most_periods ≡ most_periods
blank_clear clear is k =
    ap (λ xs. get_or xs k most_periods) is
    ∙ read_replicate (most_nodes * most_periods) k most_periods
    (cases_lt k (most_nodes * most_periods))

nothing_small : (value : ℤ) → value ≡ pos 0 → IsNear (2 ^ 100) value
nothing_small value is =
    subst (IsNear (2 ^ 100)) (sym is)
    (record { low = omega (arith, ints); high = omega (arith, ints) })

pub blank_price : (lists : RateLists) → IsBlank lists → IsPriceTable lists
blank_price lists blank = record {
  free = λ t day. blank_paid lists.paid blank.paid (place_of 0 t);
  clear = blank.clear;
  leaves = blank_small lists.leaves blank.leaves;
  arrives = blank_small lists.arrives blank.arrives;
  paid = λ n t. nothing_small ((rates_of lists).paid n t)
      (blank_paid lists.paid blank.paid (place_of n t));
}

pub blank_fit : (lists : RateLists) → IsBlank lists → IsFitTable lists
blank_fit lists blank = record {
  cells = ap length blank.clear ∙ length-replicate (most_nodes * most_periods) most_periods;
  free = blank.paid;
  first = λ t day. blank_clear lists.clear blank.clear (place_of 0 t);
  leaves = blank_small lists.leaves blank.leaves;
  arrives = blank_small lists.arrives blank.arrives;
}
