-- The least of bounds, bound by bound.
use Rattle.std.proofs.Common.{◌≡◌, ℕ, ◌+◌, ◌<◌, ◌≤◌, List, [], ◌∷◌, length, get_or, drop, All, ◌⊎◌, inl, inr, refl, sym, ◌∙◌, ap, subst, arith}
use Rattle.std.proofs.lemmas.Int.{ints}
use Rattle.std.proofs.lemmas.List.{drop_all, drop_more}
use Rattle.std.proofs.lemmas.List.Elements.{All-tail}
use Rattle.std.specs.Int.{int_min}
use Rattle.exact_sums.proofs.LeastFacts.{least_of_two}
use Rattle.flow_types.specs.declared.bound.Bound.{Bound}
use Rattle.flow_types.specs.declared.bound.Bound.TheVariants.{AtLeast, NoPlan}
use Rattle.flow_types.specs.Bounds.{IsNearBound, least_of, lesser}

lesser_then : (a b c : Bound) → lesser (lesser a b) c ≡ lesser a (lesser b c)
lesser_then NoPlan b c = refl
lesser_then (AtLeast a) NoPlan c = refl
lesser_then (AtLeast a) (AtLeast b) NoPlan = refl
lesser_then (AtLeast a) (AtLeast b) (AtLeast c) = ap (λ z. AtLeast z) same
  where
    same : int_min (int_min a b) c ≡ int_min a (int_min b c)
    same =
        let ab = least_of_two a b in
        let bc = least_of_two b c in
        let first = least_of_two (int_min a b) c in
        let second = least_of_two a (int_min b c) in
        omega (
          arith,
          ints,
          ab.0,
          ab.1,
          ab.2,
          bc.0,
          bc.1,
          bc.2,
          first.0,
          first.1,
          first.2,
          second.0,
          second.1,
          second.2,
        )

-- one bound more is less
pub least_more : (least : Bound) (bounds : List Bound) (at : ℕ) (d : Bound)
    → at < length bounds → lesser least (least_of (drop at bounds)) ≡ least_of bounds
    → lesser (lesser least (get_or bounds at d)) (least_of (drop (at + 1) bounds))
    ≡ least_of bounds
least_more least bounds at d within is =
    lesser_then least (get_or bounds at d) (least_of (drop (at + 1) bounds))
    ∙ ap (λ (l : List Bound). lesser least (least_of l)) (sym (drop_more bounds at d within))
    ∙ is

pub lesser_none : (b : Bound) → lesser b NoPlan ≡ b
lesser_none NoPlan = refl
lesser_none (AtLeast b) = refl

pub least_all : (least : Bound) (bounds : List Bound) (at : ℕ) → length bounds ≤ at
    → lesser least (least_of (drop at bounds)) ≡ least_of bounds → least ≡ least_of bounds
least_all least bounds at past is =
    sym (lesser_none least) ∙ ap (λ (l : List Bound). lesser least (least_of l))
    (sym (drop_all at bounds past)) ∙ is

near_lesser : (a b : Bound) → IsNearBound a → IsNearBound b → IsNearBound (lesser a b)
near_lesser NoPlan b first second = second
near_lesser (AtLeast a) NoPlan first second = first
near_lesser (AtLeast a) (AtLeast b) first second = by (least_of_two a b).2
  where
    by : (int_min a b ≡ a) ⊎ (int_min a b ≡ b) → IsNearBound (AtLeast (int_min a b))
    by (inl is) = subst (λ z. IsNearBound (AtLeast z)) (sym is) first
    by (inr is) = subst (λ z. IsNearBound (AtLeast z)) (sym is) second

-- the least of bounds that aren't far from 0 isn't
pub near_least : (bounds : List Bound) → All IsNearBound bounds → IsNearBound (least_of bounds)
near_least [] each = tt
near_least (bound ∷ bounds) each =
    near_lesser bound (least_of bounds) (each 0 NoPlan (omega arith))
    (near_least bounds (All-tail IsNearBound bound bounds each))
