-- Ways at the rates of prices where trips fit are the ways that fit, and cost what they do under
-- prices.
use Rattle.std.proofs.Common.{◌≡◌, ℕ, ◌+◌, ◌≤◌, List, [], ◌∷◌, length, Option, Some, None, IsSome, ℤ, ◌+ℤ◌, ◌-ℤ◌, refl, sym, ap, ap₂, ◌∙◌, subst}
use Rattle.flow_types.specs.declared.flight.Flight.{Flight}
use Rattle.flow_types.specs.declared.plan.Stop.{Stop}
use Rattle.time_windows.specs.declared.access.Access.{Access}
use Rattle.time_windows.specs.Boxes.{IsInWindow}
use Rattle.flight_routes.specs.PricedFitRates.{ArePricedFitRates, if_both}
use Rattle.flight_routes.specs.Rates.{IsWay, IsWayOn, Rates, value_or_zero, way_cost, whole_cost}

pub there_if : (a : Option ℤ) (value : ℤ) → a ≡ Some value → IsSome a
there_if None value is = let no : ⊥ = cc in absurd no
there_if (Some v) value is = refl

first_there : (fit price : Option ℤ) → IsSome (if_both fit price) → IsSome fit
first_there None price some = some
first_there (Some v) price some = refl

both_there : (fit price : Option ℤ) → IsSome fit → IsSome price → IsSome (if_both fit price)
both_there None price some there = some
both_there (Some v) price some there = there

second_is : (fit price : Option ℤ) → IsSome (if_both fit price)
    → value_or_zero (if_both fit price) ≡ value_or_zero price
second_is None price some = let no : ⊥ = cc in absurd no
second_is (Some v) price some = refl

module _ (flight : Flight) (row : ℕ → Access) (fit price rates : Rates)
    (are : ArePricedFitRates flight row fit price rates) where
  -- the rate where the way ends
  end_rate : (stop : Stop) → IsInWindow (row stop.node).window stop.time
      → stop.node + 1 ≡ length flight.nodes
      → rates.arrives stop.time ≡ if_both (fit.arrives stop.time) (price.arrives stop.time)
  end_rate stop window last = are.arrives stop.node stop.time last window

  on_fits : (stop : Stop) (rest : List Stop) → IsInWindow (row stop.node).window stop.time
      → IsWayOn flight row rates stop rest → IsWayOn flight row fit stop rest
  on_fits stop [] window way = (
    way.0,
    first_there (fit.arrives stop.time) (price.arrives stop.time)
        (subst (λ (a : Option ℤ). IsSome a) (end_rate stop window way.0) way.1),
  )
  on_fits stop (next ∷ rest) window way =
      let passage = way.0 in (
        record {
          step = passage.step;
          musts = passage.musts;
          stay = subst (λ (c : ℕ). next.time ≤ c) (are.clear stop.node stop.time) passage.stay;
          window = passage.window;
        },
        on_fits next rest passage.window way.1,
      )

  on_guide : (stop : Stop) (rest : List Stop) → IsInWindow (row stop.node).window stop.time
      → ((n t : ℕ) → n + 1 ≡ length flight.nodes → IsInWindow (row n).window t
      → IsSome (price.arrives t))
      → IsWayOn flight row fit stop rest → IsWayOn flight row rates stop rest
  on_guide stop [] window arrives way = (
    way.0,
    subst (λ (a : Option ℤ). IsSome a) (sym (end_rate stop window way.0))
        (both_there (fit.arrives stop.time) (price.arrives stop.time) way.1
        (arrives stop.node stop.time way.0 window)),
  )
  on_guide stop (next ∷ rest) window arrives way =
      let passage = way.0 in (
        record {
          step = passage.step;
          musts = passage.musts;
          stay = subst (λ (c : ℕ). next.time ≤ c) (sym (are.clear stop.node stop.time))
              passage.stay;
          window = passage.window;
        },
        on_guide next rest passage.window arrives way.1,
      )

  on_cost : (stop : Stop) (rest : List Stop) → IsInWindow (row stop.node).window stop.time
      → IsWayOn flight row rates stop rest
      → way_cost rates stop rest ≡ way_cost price stop rest
  on_cost stop [] window way =
      let is = end_rate stop window way.0 in
      ap value_or_zero is
      ∙ second_is (fit.arrives stop.time) (price.arrives stop.time)
      (subst (λ (a : Option ℤ). IsSome a) is way.1)
  on_cost stop (next ∷ rest) window way =
      ap₂ (λ (a b : ℤ). a +ℤ b)
      (ap₂ (λ (a b : ℤ). a -ℤ b) (are.paid stop.node next.time) (are.paid stop.node stop.time))
      (on_cost next rest way.0.window way.1)

  first_window : (stop : Stop) → stop.node ≡ 0 → IsInWindow (row 0).window stop.time
      → IsInWindow (row stop.node).window stop.time
  first_window stop at_first window =
      subst (λ (n : ℕ). IsInWindow (row n).window stop.time) (sym at_first) window

  pub priced_fit_fits : (stops : List Stop) → IsWay flight row rates stops
      → IsWay flight row fit stops
  priced_fit_fits [] way = way
  priced_fit_fits (stop ∷ rest) way = (
    way.0,
    way.1,
    first_there (fit.leaves stop.time) (price.leaves stop.time)
        (subst (λ (a : Option ℤ). IsSome a) (are.leaves stop.time way.1) way.2),
    on_fits stop rest (first_window stop way.0 way.1) way.3,
  )

  pub fits_guide : ((t : ℕ) → IsInWindow (row 0).window t → IsSome (price.leaves t))
      → ((n t : ℕ) → n + 1 ≡ length flight.nodes → IsInWindow (row n).window t
      → IsSome (price.arrives t))
      → (stops : List Stop) → IsWay flight row fit stops → IsWay flight row rates stops
  fits_guide leaves arrives [] way = way
  fits_guide leaves arrives (stop ∷ rest) way = (
    way.0,
    way.1,
    subst (λ (a : Option ℤ). IsSome a) (sym (are.leaves stop.time way.1))
        (both_there (fit.leaves stop.time) (price.leaves stop.time) way.2
        (leaves stop.time way.1)),
    on_guide stop rest (first_window stop way.0 way.1) arrives way.3,
  )

  pub priced_fit_cost : (stops : List Stop) → IsWay flight row rates stops
      → whole_cost rates stops ≡ whole_cost price stops
  priced_fit_cost [] way = refl
  priced_fit_cost (stop ∷ rest) way =
      let is = are.leaves stop.time way.1 in
      ap₂ (λ (a b : ℤ). a +ℤ b)
      (ap value_or_zero is
      ∙ second_is (fit.leaves stop.time) (price.leaves stop.time)
      (subst (λ (a : Option ℤ). IsSome a) is way.2))
      (on_cost stop rest (first_window stop way.0 way.1) way.3)
