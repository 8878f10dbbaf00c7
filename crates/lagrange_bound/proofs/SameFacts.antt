-- Tables with the same prices for the day: both have the same least trips, both move alike, and
-- what they tell is the same.
use Rattle.std.proofs.Common.{◌≡◌, ℕ, zero, suc, List, [], ◌∷◌, length, slice_get, Some, ℤ, inl, inr, refl, sym, ap, ap₂, ◌∙◌, subst, arith}
use Rattle.std.proofs.lemmas.Int.{ints}
use Rattle.exact_sums.specs.Leasts.{IsFirstLeast}
use Rattle.exact_sums.proofs.ItemFacts.{item_there}
use Rattle.flow_types.specs.declared.bound.Bound.{Bound}
use Rattle.flow_types.specs.declared.bound.Bound.TheVariants.{AtLeast, NoPlan}
use Rattle.flow_types.specs.declared.parts.Parts.{Parts}
use Rattle.flow_types.specs.declared.plan.Stop.{Stop}
use Rattle.flow_types.specs.Valid.{IsScenario}
use Rattle.flight_routes.specs.Inside.{IsTripIn}
use Rattle.flight_routes.specs.Prices.{ArePricesOf, PriceTable, priced_cost}
use Rattle.flight_routes.specs.TripOrder.{IsNoLater}
use Rattle.time_windows.specs.Boxes.{Box}
use Rattle.priced_plans.specs.PricedBound.{IsRoundedUp}
use Rattle.priced_plans.specs.Usage.{traffic_of}
use Rattle.priced_plans.specs.Valuing.{LacksTrip}
use Rattle.priced_plans.proofs.OnceFacts.{lacks_none}
use Rattle.lagrange_bound.specs.Rounds.{AreLeastTrips, IsLeastTrip, IsMovedBy, IsRoundBound, IsRoundStep, IsRoundTable, IsTableBound, cost_weight, moved_price, step_of}
use Rattle.priced_plans.proofs.SameFacts.{AreSame, cost_same, rounded_same, value_same}

-- what is said twice of the same costs
module _ {A : Type 0} (P : A → Type 0) (f g : A → ℤ) (each : (x : A) → P x → f x ≡ g x) where
  first_same : (R : A → A → Type 0) → ((x y : A) → R x y → R y x → x ≡ y) → (x y : A)
      → IsFirstLeast P f R x → IsFirstLeast P g R y → x ≡ y
  first_same R both x y p q =
      let one = p.least y q.inside in
      let two = q.least x p.inside in
      let here = each x p.inside in
      let there = each y q.inside in
      both x y (p.first y q.inside (omega (arith, ints, one, two, here, there)))
      (q.first x p.inside (omega (arith, ints, one, two, here, there)))

-- neither of two trips is later
no_later_both : (xs ys : List Stop) → IsNoLater xs ys → IsNoLater ys xs → xs ≡ ys
no_later_both [] [] one two = refl
no_later_both [] (y ∷ ys) one two = absurd two
no_later_both (x ∷ xs) [] one two = absurd one
no_later_both (x ∷ xs) (y ∷ ys) (inr one) (inr two) =
    ap₂ (λ (s : Stop) (stops : List Stop). s ∷ stops) one.0 (no_later_both xs ys one.1 two.1)
no_later_both (x ∷ xs) (y ∷ ys) (inr one) (inl (inl two)) =
    let node = ap (λ (s : Stop). s.node) one.0 in absurd (omega (arith, node, two))
no_later_both (x ∷ xs) (y ∷ ys) (inr one) (inl (inr two)) =
    let time = ap (λ (s : Stop). s.time) one.0 in absurd (omega (arith, time, two.1))
no_later_both (x ∷ xs) (y ∷ ys) (inl (inl one)) (inr two) =
    let node = ap (λ (s : Stop). s.node) two.0 in absurd (omega (arith, node, one))
no_later_both (x ∷ xs) (y ∷ ys) (inl (inr one)) (inr two) =
    let time = ap (λ (s : Stop). s.time) two.0 in absurd (omega (arith, time, one.1))
no_later_both (x ∷ xs) (y ∷ ys) (inl (inl one)) (inl (inl two)) = absurd (omega (arith, one, two))
no_later_both (x ∷ xs) (y ∷ ys) (inl (inl one)) (inl (inr two)) =
    absurd (omega (arith, one, two.0))
no_later_both (x ∷ xs) (y ∷ ys) (inl (inr one)) (inl (inl two)) =
    absurd (omega (arith, one.0, two))
no_later_both (x ∷ xs) (y ∷ ys) (inl (inr one)) (inl (inr two)) =
    absurd (omega (arith, one.1, two.1))

-- lists with the same items
items_same : {A : Type 0} (xs ys : List A) → length xs ≡ length ys
    → ((k : ℕ) (x y : A) → slice_get xs k ≡ Some x → slice_get ys k ≡ Some y → x ≡ y) → xs ≡ ys
items_same [] [] long each = refl
items_same [] (y ∷ ys) long each = absurd (omega (arith, long))
items_same (x ∷ xs) [] long each = absurd (omega (arith, long))
items_same {A} (x ∷ xs) (y ∷ ys) long each =
    ap₂ (λ (item : A) (items : List A). item ∷ items) (each 0 x y refl refl)
    (items_same xs ys (omega (arith, long)) (λ k. each (suc k)))

module _ (parts : Parts) (valid : IsScenario parts) (a b : PriceTable)
    (same : AreSame parts a b) (box : Box) where
  trip_same : (number : ℕ) (x y : List Stop) → IsLeastTrip parts box a number x
      → IsLeastTrip parts box b number y → x ≡ y
  trip_same number =
      first_same (IsTripIn parts box number) (priced_cost cost_weight a parts number)
      (priced_cost cost_weight b parts number)
      (cost_same parts valid a b same cost_weight box number) IsNoLater no_later_both

  trips_same : (xs ys : List (List Stop)) → AreLeastTrips parts box a xs
      → AreLeastTrips parts box b ys → xs ≡ ys
  trips_same xs ys p q =
      items_same xs ys (p.whole ∙ sym q.whole)
      (λ k x y one two. trip_same k x y (p.each k x one) (q.each k y two))

-- no flight lacks a trip where there are least trips
lacks_least : (parts : Parts) (box : Box) (table : PriceTable) (trips : List (List Stop))
    → LacksTrip parts box → AreLeastTrips parts box table trips → ⊥
lacks_least parts box table trips lacks are =
    let item = item_there trips lacks.number (omega (arith, are.whole, lacks.within)) in
    lacks.none item.0 (are.each lacks.number item.0 item.1).inside

-- moved alike, from the same
moved_same : (parts : Parts) (trips : List (List Stop)) (step : ℕ) (a b c d : PriceTable)
    → AreSame parts a b → IsMovedBy parts trips step a c → IsMovedBy parts trips step b d
    → AreSame parts c d
moved_same parts trips step a b c d same p q k within =
    p.each k within ∙ ap (moved_price parts (traffic_of parts trips) step k) (same k within)
    ∙ sym (q.each k within)

-- a round keeps the size
step_sized : (parts : Parts) (box : Box) (round : ℕ) (old new : PriceTable)
    → ArePricesOf parts old → IsRoundStep parts box round old new → ArePricesOf parts new
step_sized parts box round old new are (inl (trips, by)) = by.moved.size
step_sized parts box round old new are (inr without) =
    subst (ArePricesOf parts) (sym without.same) are

pub table_sized : (parts : Parts) (box : Box) (round : ℕ) (table : PriceTable)
    → IsRoundTable parts box round table → ArePricesOf parts table
table_sized parts box zero table is = is.0
table_sized parts box (suc before) table is =
    step_sized parts box (suc before) is.0 table (table_sized parts box before is.0 is.1) is.2

module _ (parts : Parts) (box : Box) (valid : IsScenario parts) where
  step_same : (round : ℕ) (a b c d : PriceTable) → AreSame parts a b
      → IsRoundStep parts box round a c → IsRoundStep parts box round b d
      → AreSame parts c d
  step_same round a b c d same (inl (trips, by)) (inl (others, also)) =
      moved_same parts trips (step_of round) a b c d same by.moved
      (subst (λ ts. IsMovedBy parts ts (step_of round) b d)
      (sym (trips_same parts valid a b same box trips others by.least also.least)) also.moved)
  step_same round a b c d same (inl (trips, by)) (inr without) =
      absurd (lacks_least parts box a trips without.none by.least)
  step_same round a b c d same (inr without) (inl (trips, by)) =
      absurd (lacks_least parts box b trips without.none by.least)
  step_same round a b c d same (inr without) (inr also) =
      subst (λ z. AreSame parts z d) (sym without.same)
      (subst (λ z. AreSame parts a z) (sym also.same) same)

  -- the prices of a round are told by its number
  pub table_same : (round : ℕ) (a b : PriceTable) → IsRoundTable parts box round a
      → IsRoundTable parts box round b → AreSame parts a b
  table_same zero a b p q = λ k within. p.1 k ∙ sym (q.1 k)
  table_same (suc before) a b p q =
      step_same (suc before) p.0 q.0 a b (table_same before p.0 q.0 p.1 q.1) p.2 q.2

  -- and so is the bound that they tell
  pub bound_same : (a b : PriceTable) (x y : Bound) → AreSame parts a b
      → IsTableBound parts box a x → IsTableBound parts box b y → x ≡ y
  bound_same a b NoPlan NoPlan same p q = refl
  bound_same a b NoPlan (AtLeast y) same p q = absurd (lacks_none parts box cost_weight b q.0 p q.1)
  bound_same a b (AtLeast x) NoPlan same p q = absurd (lacks_none parts box cost_weight a p.0 q p.1)
  bound_same a b (AtLeast x) (AtLeast y) same p q =
      ap AtLeast
      (rounded_same q.0 cost_weight x y
      (subst (λ v. IsRoundedUp v cost_weight x)
      (value_same parts valid a b same box cost_weight p.0 q.0 p.1 q.1) p.2)
      q.2)

pub round_same : (parts : Parts) (box : Box) (round : ℕ) (x y : Bound) → IsScenario parts
    → IsRoundBound parts box round x → IsRoundBound parts box round y → x ≡ y
round_same parts box round x y valid p q =
    bound_same parts box valid p.0 q.0 x y (table_same parts box valid round p.0 q.0 p.1 q.1)
    p.2 q.2
