-- In a part of a box the same prices tell no less.
use Rattle.std.proofs.Common.{◌≡◌, ℕ, zero, suc, ◌<◌, List, length, ℤ, ◌≤ℤ◌, ◌⊎◌, inl, inr, sym, subst, arith}
use Rattle.std.proofs.lemmas.Bool.{cases_eq}
use Rattle.std.proofs.lemmas.Int.{ints}
use Rattle.exact_sums.specs.Leasts.{IsLeastAt}
use Rattle.flow_types.specs.declared.bound.Bound.{Bound}
use Rattle.flow_types.specs.declared.bound.Bound.TheVariants.{AtLeast, NoPlan}
use Rattle.flow_types.specs.declared.parts.Parts.{Parts}
use Rattle.flow_types.specs.declared.plan.Stop.{Stop}
use Rattle.flow_types.specs.Bounds.{IsAtMost}
use Rattle.flight_routes.specs.Inside.{IsTripIn}
use Rattle.flight_routes.specs.Prices.{PriceTable, priced_cost}
use Rattle.time_windows.specs.Boxes.{Box}
use Rattle.priced_plans.specs.PricedBound.{IsPricedBound, IsRoundedUp}
use Rattle.priced_plans.specs.Values.{IsPricedSum}

-- the least of fewer is no less
least_rises : {A : Type 0} (P Q : A → Type 0) (cost : A → ℤ) → ((x : A) → Q x → P x)
    → (x y : ℤ) → IsLeastAt P cost x → IsLeastAt Q cost y → x ≤ℤ y
least_rises P Q cost fewer x y p q =
    let here = p.below q.reached.0 (fewer q.reached.0 q.reached.1) in
    omega (arith, ints, here, q.reached.2)

-- what is rounded up rises with what it is made of
rounded_rises : (weight : ℕ) (v w x y : ℤ) → v ≤ℤ w → IsRoundedUp v weight x
    → IsRoundedUp w weight y → x ≤ℤ y
rounded_rises weight v w x y less p q =
    let reached = q.reached in
    p.below y (omega (arith, ints, less, reached))

module _ (parts : Parts) (whole part : Box) (weight : ℕ) (table : PriceTable)
    (inside : (number : ℕ) (stops : List Stop) → IsTripIn parts part number stops
    → IsTripIn parts whole number stops) where
  sum_rises : (n : ℕ) (a b : ℤ) → IsPricedSum parts whole weight table n a
      → IsPricedSum parts part weight table n b → a ≤ℤ b
  sum_rises zero a b p q = omega (arith, ints, p, q)
  sum_rises (suc n) a b p q =
      let before = sum_rises n p.0 q.0 p.2 q.2 in
      let here = least_rises (IsTripIn parts whole n) (IsTripIn parts part n)
      (priced_cost weight table parts n) (inside n) p.1 q.1 p.3 q.3 in
      omega (arith, ints, before, here, p.4, q.4)

  -- where all are added up, each flight has a trip
  has_trip : (n : ℕ) (sum : ℤ) → IsPricedSum parts part weight table n sum → (number : ℕ)
      → number < n → (stops : List Stop) × IsTripIn parts part number stops
  has_trip zero sum is number within = absurd (omega (arith, within))
  has_trip (suc n) sum is number within =
      by (cases_eq number n)
      (λ other. has_trip n is.0 is.2 number (omega (arith, within, other)))
    where
      by : (number ≡ n) ⊎ (number ≡ n → ⊥)
          → ((number ≡ n → ⊥) → (stops : List Stop) × IsTripIn parts part number stops)
          → (stops : List Stop) × IsTripIn parts part number stops
      by (inl same) before =
          subst (λ (k : ℕ). (stops : List Stop) × IsTripIn parts part k stops) (sym same)
          (is.3.reached.0, is.3.reached.1)
      by (inr other) before = before other

  pub bound-rises : (first second : Bound) → IsPricedBound parts whole weight table first
      → IsPricedBound parts part weight table second → IsAtMost first second
  bound-rises first NoPlan p q = tt
  bound-rises NoPlan (AtLeast second) p q =
      let trip = has_trip (length parts.flights) q.1.sum q.1.least p.number p.within in
      p.none trip.0 (inside p.number trip.0 trip.1)
  bound-rises (AtLeast first) (AtLeast second) p q =
      let sum = sum_rises (length parts.flights) p.1.sum q.1.sum p.1.least q.1.least in
      let one = p.1.less in
      let two = q.1.less in
      rounded_rises weight p.0 q.0 first second (omega (arith, ints, sum, one, two)) p.2 q.2
