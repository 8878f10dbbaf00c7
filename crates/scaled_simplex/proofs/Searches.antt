-- The first of the best: it passes, none that passes is better, and it is better than each before
-- it that passes. There is one such position at the most, so that any search that finds one finds
-- it.
use Rattle.std.proofs.Common.{◌≡◌, ◌⊎◌, inl, inr, ℕ, zero, suc, ◌<◌, Bool, true, false, ◌&&◌, Option, None, Some, if◌then◌else◌, refl, sym, ap, ◌∙◌, subst, arith}
use Rattle.std.proofs.lemmas.Bool.{and_parts}
use Rattle.scaled_simplex.specs.Search.{better, first_best}

module _ (passes : ℕ → Bool) (less : ℕ → ℕ → Bool) where
  pub record IsBest (n k : ℕ) : Type 0 where
    pub within : k < n
    pub passing : passes k ≡ true
    pub best : (j : ℕ) → j < n → passes j ≡ true → less j k ≡ false
    pub first : (j : ℕ) → j < k → passes j ≡ true → less k j ≡ true

  -- a better one is never worse, and is better than each that is no better than the other
  pub record IsOrder : Type 0 where
    pub apart : (a b : ℕ) → less a b ≡ true → less b a ≡ false
    pub between : (a b c : ℕ) → passes a ≡ true → passes b ≡ true → passes c ≡ true
        → less a c ≡ true → less b c ≡ false → less a b ≡ true

  pub record IsFound (n : ℕ) (o : Option ℕ) : Type 0 where
    pub some : (k : ℕ) → o ≡ Some k → IsBest n k
    pub none : o ≡ None → (j : ℕ) → j < n → passes j ≡ false

  differ : {P : Type 0} (b : Bool) → b ≡ true → b ≡ false → P
  differ b is isnt = absurd (let e : true ≡ false = sym is ∙ isnt in cc)

  last : (n j : ℕ) → j < suc n → (j < n) ⊎ (j ≡ n)
  last n j below = grind arith

  not_itself : IsOrder → (k : ℕ) → less k k ≡ false
  not_itself order k = by (less k k) refl
    where
      by : (b : Bool) → less k k ≡ b → less k k ≡ false
      by true is = order.apart k k is
      by false isnt = isnt

  module _ (order : IsOrder) where
    step_none : (n : ℕ) → IsFound n None → (b : Bool) → passes n ≡ b
        → IsFound (suc n) (if b then Some n else None)
    step_none n found true is = record {
      some = λ k here.
          let same : n ≡ k = cc in
          subst (λ m. IsBest (suc n) m) same (record {
            within = omega arith;
            passing = is;
            best = λ j below passing. by_last j passing (last n j below);
            first = λ j below passing.
                differ (passes j) passing (found.none refl j below);
          });
      none = λ isnt. absurd (let e : Some n ≡ None = isnt in cc);
    }
      where
        by_last : (j : ℕ) → passes j ≡ true → (j < n) ⊎ (j ≡ n) → less j n ≡ false
        by_last j passing (inl below) = differ (passes j) passing (found.none refl j below)
        by_last j passing (inr at) =
            subst (λ m. less m n ≡ false) (sym at) (not_itself order n)
    step_none n found false isnt = record {
      some = λ k here. absurd (let e : None ≡ Some k = here in cc);
      none = λ _ j below. by_last j (last n j below);
    }
      where
        by_last : (j : ℕ) → (j < n) ⊎ (j ≡ n) → passes j ≡ false
        by_last j (inl below) = found.none refl j below
        by_last j (inr at) = ap passes at ∙ isnt

    replaced_best : (n best : ℕ) → IsBest n best → passes n ≡ true → less n best ≡ true
        → IsBest (suc n) n
    replaced_best n best is passing beats = record {
      within = omega arith;
      passing = passing;
      best = λ j below here. by_last j here (last n j below);
      first = λ j below here.
          order.between n j best passing here is.passing beats (is.best j below here);
    }
      where
        by_last : (j : ℕ) → passes j ≡ true → (j < n) ⊎ (j ≡ n) → less j n ≡ false
        by_last j here (inl below) = order.apart n j
            (order.between n j best passing here is.passing beats (is.best j below here))
        by_last j here (inr at) =
            subst (λ m. less m n ≡ false) (sym at) (not_itself order n)

    kept_best : (n best : ℕ) → IsBest n best → (passes n ≡ true → less n best ≡ false)
        → IsBest (suc n) best
    kept_best n best is beaten = record {
      within = let within = is.within in omega (arith, within);
      passing = is.passing;
      best = λ j below here. by_last j here (last n j below);
      first = is.first;
    }
      where
        by_last : (j : ℕ) → passes j ≡ true → (j < n) ⊎ (j ≡ n) → less j best ≡ false
        by_last j here (inl below) = is.best j below here
        by_last j here (inr at) =
            subst (λ m. less m best ≡ false) (sym at) (beaten (ap passes (sym at) ∙ here))

    either_false : (a b : Bool) → (a && b) ≡ false → a ≡ true → b ≡ false
    either_false true b isnt is = isnt
    either_false false b isnt is = absurd (let e : false ≡ true = is in cc)

    step_some : (n best : ℕ) → IsFound n (Some best) → (b : Bool)
        → (passes n && less n best) ≡ b
        → IsFound (suc n) (if b then Some n else Some best)
    step_some n best found true is = record {
      some = λ k here.
          let both = and_parts (passes n) (less n best) is in
          let same : n ≡ k = cc in
          subst (λ m. IsBest (suc n) m) same
          (replaced_best n best (found.some best refl) both.0 both.1);
      none = λ isnt. absurd (let e : Some n ≡ None = isnt in cc);
    }
    step_some n best found false isnt = record {
      some = λ k here.
          let same : best ≡ k = cc in
          subst (λ m. IsBest (suc n) m) same
          (kept_best n best (found.some best refl) (either_false (passes n) (less n best) isnt));
      none = λ none. absurd (let e : Some best ≡ None = none in cc);
    }

    step : (n : ℕ) (o : Option ℕ) → IsFound n o → IsFound (suc n) (better passes less n o)
    step n None found = step_none n found (passes n) refl
    step n (Some best) found = step_some n best found (passes n && less n best) refl

    pub best_found : (n : ℕ) → IsFound n (first_best passes less n)
    best_found zero = record {
      some = λ k here. absurd (let e : None ≡ Some k = here in cc);
      none = λ _ j below. absurd (omega (arith, below));
    }
    best_found (suc n) = step n (first_best passes less n) (best_found n)

    one_best : (n a b : ℕ) → IsBest n a → IsBest n b → (a < b) ⊎ ((b < a) ⊎ (a ≡ b)) → a ≡ b
    one_best n a b one two (inl below) = differ (less b a)
        (two.first a below one.passing)
        (one.best b two.within two.passing)
    one_best n a b one two (inr (inl above)) = differ (less a b)
        (one.first b above two.passing)
        (two.best a one.within one.passing)
    one_best n a b one two (inr (inr same)) = same

    three : (a b : ℕ) → (a < b) ⊎ ((b < a) ⊎ (a ≡ b))
    three a b = grind arith

    -- whatever is best is what the search finds
    pub best_is_found : (n k : ℕ) → IsBest n k → first_best passes less n ≡ Some k
    best_is_found n k is = by (first_best passes less n) refl
      where
        by : (o : Option ℕ) → first_best passes less n ≡ o → o ≡ Some k
        by None none = differ (passes k) is.passing
            ((best_found n).none none k is.within)
        by (Some a) some =
            ap Some (one_best n a k ((best_found n).some a some) is (three a k))
