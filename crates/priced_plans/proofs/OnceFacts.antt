-- Prices have one value in a box at the most, and none where a flight has no trip in it.
use Rattle.std.proofs.Common.{◌≡◌, ◌⊎◌, ℕ, zero, suc, ◌-◌, ◌<◌, ◌≤◌, List, length, ℤ, pos, ◌+ℤ◌, ◌-ℤ◌, inl, inr, sym, ap, ap₂, ◌∙◌, subst, arith}
use Rattle.std.proofs.lemmas.Bool.{cases_lt}
use Rattle.std.proofs.lemmas.Int.{ints}
use Rattle.exact_sums.specs.Leasts.{IsLeastAt}
use Rattle.flow_types.specs.declared.parts.Parts.{Parts}
use Rattle.flow_types.specs.declared.plan.Stop.{Stop}
use Rattle.flight_routes.specs.Inside.{IsTripIn}
use Rattle.flight_routes.specs.Prices.{PriceTable}
use Rattle.time_windows.specs.Boxes.{Box}
use Rattle.priced_plans.specs.Values.{IsPricedSum, IsPricedValue, limit_price}
use Rattle.priced_plans.specs.Valuing.{LacksTrip}

pub least_once : {A : Type 0} (P : A → Type 0) (f : A → ℤ) (x y : ℤ) → IsLeastAt P f x
    → IsLeastAt P f y → x ≡ y
least_once P f x y p q =
    let one = p.below q.reached.0 q.reached.1 in
    let two = q.below p.reached.0 p.reached.1 in
    omega (arith, ints, one, two, p.reached.2, q.reached.2)

module _ (parts : Parts) (box : Box) (weight : ℕ) (table : PriceTable) where
  sum_once : (n : ℕ) (x y : ℤ) → IsPricedSum parts box weight table n x
      → IsPricedSum parts box weight table n y → x ≡ y
  sum_once zero x y p q = p ∙ sym q
  sum_once (suc n) x y p q =
      let before = sum_once n p.0 q.0 p.2 q.2 in
      let least = least_once (IsTripIn parts box n) _ p.1 q.1 p.3 q.3 in
      p.4 ∙ ap₂ (λ (a b : ℤ). a +ℤ b) before least ∙ sym q.4

  pub value_once : (x y : ℤ) → IsPricedValue parts box weight table x
      → IsPricedValue parts box weight table y → x ≡ y
  value_once x y p q =
      p.less ∙ ap (λ (a : ℤ). a -ℤ pos (limit_price parts table))
      (sum_once (length parts.flights) p.sum q.sum p.least q.least) ∙ sym q.less

  -- where there is a sum, each flight has a trip
  sum_trip : (n k : ℕ) (sum : ℤ) → IsPricedSum parts box weight table n sum → k < n
      → (k < n - 1) ⊎ (n - 1 ≤ k) → (stops : List Stop) × IsTripIn parts box k stops
  sum_trip zero k sum is below at = absurd (omega (arith, below))
  sum_trip (suc n) k sum is below (inl before) =
      sum_trip n k is.0 is.2 (omega (arith, before)) (cases_lt k (n - 1))
  sum_trip (suc n) k sum is below (inr here) =
      let last : n ≡ k = omega (arith, below, here) in
      let reached = is.3.reached in
      (reached.0, subst (λ m. IsTripIn parts box m reached.0) last reached.1)

  pub lacks_none : (value : ℤ) → LacksTrip parts box
      → IsPricedValue parts box weight table value → ⊥
  lacks_none value lacks is =
      let has = sum_trip (length parts.flights) lacks.number is.sum is.least
      lacks.within (cases_lt lacks.number (length parts.flights - 1)) in
      lacks.none has.0 has.1
