-- The values of sums of terms, in whole numbers.
use Rattle.std.proofs.Common.{◌≡◌, ℕ, ◌-◌, ◌==◌, Bool, true, false, nat_le, List, [], ◌∷◌, ◌++◌, if◌then◌else◌, pos, neg_ℤ, ◌+ℤ◌, ◌*ℤ◌, refl, arith}
use Rattle.std.proofs.lemmas.Int.{ints}
use Rattle.std.specs.List.{flat_map}
use Rattle.exact_sums.proofs.SumFacts.{total-append}
use Rattle.flow_types.specs.declared.flight.Leg.{Leg}
use Rattle.bytime_model.specs.declared.variables.Term.{Term}
use Rattle.bytime_model.specs.declared.variables.Var.{Var}
use Rattle.bytime_model.specs.declared.variables.Var.TheVariants.{By}
use Rattle.bytime_model.specs.Rows.{back_term, by_before, minus_one, on_term, one, term_of}
use Rattle.bytime_model.specs.Values.{form_value}
use Rattle.bytime_model.proofs.TripFacts.{back_sum, before, on_sum}

module _ (value : Var → ℕ) where
  pub form-append : (xs ys : List Term)
      → form_value value (xs ++ ys) ≡ form_value value xs +ℤ form_value value ys
  form-append xs ys =
      total-append (λ (term : Term). term.factor *ℤ pos (value term.variable)) xs ys

  pub form-one : (variable : Var) (terms : List Term)
      → form_value value (term_of one variable ∷ terms)
      ≡ pos (value variable) +ℤ form_value value terms
  form-one variable terms = omega (arith, ints)

  pub form-minus : (variable : Var) (terms : List Term)
      → form_value value (term_of minus_one variable ∷ terms)
      ≡ neg_ℤ (pos (value variable)) +ℤ form_value value terms
  form-minus variable terms = omega (arith, ints)

  pub form-before : (flight node time wait : ℕ)
      → form_value value (by_before minus_one flight node time wait)
      ≡ neg_ℤ (pos (before (λ t. value (By flight node t)) time wait))
  form-before flight node time wait = by (nat_le wait time)
    where
      by : (b : Bool) → form_value value
          (if b then term_of minus_one (By flight node (time - wait)) ∷ [] else [])
          ≡ neg_ℤ (pos (if b then value (By flight node (time - wait)) else 0))
      by true = omega (arith, ints)
      by false = refl

  pub form-on : (number node time : ℕ) (legs : List Leg)
      → form_value value (flat_map (on_term number node time) legs)
      ≡ neg_ℤ (pos (on_sum (λ m. value (By number m time)) node legs))
  form-on number node time [] = refl
  form-on number node time (leg ∷ legs) =
      let each = by (leg.from == node) in
      let rest = form-on number node time legs in
      let both = form-append (on_term number node time leg)
      (flat_map (on_term number node time) legs) in
      omega (arith, ints, both, each, rest)
    where
      by : (b : Bool) → form_value value
          (if b then term_of minus_one (By number leg.to time) ∷ [] else [])
          ≡ neg_ℤ (pos (if b then value (By number leg.to time) else 0))
      by true = omega (arith, ints)
      by false = refl

  pub form-back : (number node time : ℕ) (legs : List Leg)
      → form_value value (flat_map (back_term number node time) legs)
      ≡ neg_ℤ (pos (back_sum (λ m t. value (By number m t)) node time legs))
  form-back number node time [] = refl
  form-back number node time (leg ∷ legs) =
      let each = by (leg.to == node) in
      let rest = form-back number node time legs in
      let both = form-append (back_term number node time leg)
      (flat_map (back_term number node time) legs) in
      omega (arith, ints, both, each, rest)
    where
      by : (b : Bool) → form_value value
          (if b then by_before minus_one number leg.from time leg.least else [])
          ≡ neg_ℤ (pos (if b then before (λ t. value (By number leg.from t)) time leg.least else 0))
      by true = form-before number leg.from time leg.least
      by false = refl
