-- A leaf has one bound or one fault on a box.
use Rattle.std.proofs.Common.{◌≡◌, ◌⊎◌, ℕ, ◌<◌, ◌≤◌, Bool, true, false, List, Result, Ok, Err, ℤ, refl, sym, ap, ap₂, ◌∙◌, subst, inl, inr, arith}
use Rattle.std.proofs.lemmas.Bool.{cases_lt}
use Rattle.std.proofs.lemmas.Int.{ints}
use Rattle.flow_types.specs.declared.bound.Bound.{Bound}
use Rattle.flow_types.specs.declared.bound.Bound.TheVariants.{AtLeast, NoPlan}
use Rattle.flow_types.specs.declared.parts.Parts.{Parts}
use Rattle.flow_types.specs.Costs.{plan_cost}
use Rattle.flow_types.specs.Valid.{IsScenario}
use Rattle.flight_routes.specs.Prices.{PriceTable}
use Rattle.time_windows.specs.declared.access.Access.{Access}
use Rattle.time_windows.specs.Boxes.{Box, IsClosedMust, options_of}
use Rattle.time_windows.specs.Tight.{IsEarlierNode, IsFirstClosed, IsLive}
use Rattle.priced_plans.proofs.KeyFacts.{key_of}
use Rattle.priced_plans.proofs.OnceFacts.{lacks_none, least_once}
use Rattle.priced_plans.proofs.SameFacts.{AreSame, rounded_same, value_same}
use Rattle.bytime_model.specs.declared.multiplier.Multiplier.{Multiplier}
use Rattle.branch_tree.specs.declared.leaf.Leaf.{Leaf}
use Rattle.branch_tree.specs.declared.leaf.Leaf.TheVariants.{Dual, Empty, Lag, Unit as UnitLeaf}
use Rattle.cut_rows.specs.declared.names.CutName.{CutName}
use Rattle.dual_sums.specs.Dual.{IsChoice, IsFirstUnknown, dual_at}
use Rattle.dual_leaf.specs.declared.fault.LeafFault.{LeafFault}
use Rattle.dual_leaf.specs.declared.fault.LeafFault.TheVariants.{Closed, NotEmpty, NotUnit, UnknownRow, Useless}
use Rattle.dual_leaf.specs.Lag.{ArePricedBy, IsFirstUnpriceable}
use Rattle.dual_leaf.specs.Leaf.{IsCostIn, IsDualAnswer, IsDualFault, IsEmptyBound, IsFirstOther, IsLagAnswer, IsLagFault, IsLeafBound, IsNotUnit, IsAnswerOf, IsTableAnswer, IsUnitBound, IsUnitBox}
use Rattle.dual_leaf.proofs.LeafFacts.{same_plan}

abbrev Answer : Type 0
Answer = Result Bound LeafFault

not_less : (a b : ℕ) → (a < b → ⊥) → b ≤ a
not_less a b not = elim (cases_lt a b) as (λ _. b ≤ a) [
  | inl less ↦ absurd (not less)
  | inr most ↦ most
]

clash : (b : Bool) → b ≡ true → b ≡ false → ⊥
clash true is isnt = absurd cc
clash false is isnt = absurd cc

-- of two nodes, neither is before the other
node_one : (f n g m : ℕ) → (IsEarlierNode f n g m → ⊥) → (IsEarlierNode g m f n → ⊥)
    → (f ≡ g) × (n ≡ m)
node_one f n g m one two =
    let at_most = not_less g f (λ less. two (inl less)) in
    let at_least = not_less f g (λ less. one (inl less)) in
    let same : f ≡ g = omega (arith, at_most, at_least) in
    let low = not_less m n (λ less. two (inr (sym same, less))) in
    let high = not_less n m (λ less. one (inr (same, less))) in
    (same, omega (arith, low, high))

module _ (box : Box) where
  closed_one : (f n g m : ℕ) → IsFirstClosed box f n → IsFirstClosed box g m
      → (f ≡ g) × (n ≡ m)
  closed_one f n g m p q =
      node_one f n g m (λ earlier. q.none_before f n earlier p.here)
      (λ earlier. p.none_before g m earlier q.here)

  other_one : (f n g m : ℕ) → IsFirstOther box f n → IsFirstOther box g m → (f ≡ g) × (n ≡ m)
  other_one f n g m p q =
      node_one f n g m (λ earlier. p.here (q.ones_before f n earlier))
      (λ earlier. q.here (p.ones_before g m earlier))

  empty_one : (x y : Answer) → IsEmptyBound box x → IsEmptyBound box y → x ≡ y
  empty_one (Ok a) (Ok b) p q = ap Ok (p.0 ∙ sym q.0)
  empty_one (Ok a) (Err e) (is, (f, n, closed)) q = absurd (q.1 f n closed)
  empty_one (Err d) (Ok b) p (is, (f, n, closed)) = absurd (p.1 f n closed)
  empty_one (Err d) (Err e) p q = ap Err (p.0 ∙ sym q.0)

  closed_none : (access : Access) → IsClosedMust access → options_of access ≡ 0
  closed_none access is = rw (is.must, is.shut) refl

  not_both : (f n : ℕ) → IsUnitBox box → IsNotUnit box f n → ⊥
  not_both f n unit (inl closed) =
      let one = unit f n in
      let none = closed_none (box f n) closed.here in
      absurd (omega (arith, one, none))
  not_both f n unit (inr (live, other)) = other.here (unit f n)

  not_unit_one : (f n g m : ℕ) → IsNotUnit box f n → IsNotUnit box g m → (f ≡ g) × (n ≡ m)
  not_unit_one f n g m (inl p) (inl q) = closed_one f n g m p q
  not_unit_one f n g m (inl p) (inr (live, q)) = absurd (live f n p.here)
  not_unit_one f n g m (inr (live, p)) (inl q) = absurd (live g m q.here)
  not_unit_one f n g m (inr (live, p)) (inr (too, q)) = other_one f n g m p q

  -- a fault is of the first closed node, or of the first row of some kind
  abbrev IsRowFault : (ℕ → Type 0) → Answer → Type 0
  IsRowFault First answer =
      ((f : ℕ) × (n : ℕ) × (answer ≡ Err (Closed f n)) × IsFirstClosed box f n)
      ⊎ ((k : ℕ) × (answer ≡ Err (UnknownRow k)) × IsLive box × First k)

  row_fault_one : (First : ℕ → Type 0) → ((j k : ℕ) → First j → First k → j ≡ k) → (x y : Answer)
      → IsRowFault First x → IsRowFault First y → x ≡ y
  row_fault_one First once x y (inl (f, n, is, p)) (inl (g, m, too, q)) =
      let same = closed_one f n g m p q in
      is ∙ ap₂ (λ (a b : ℕ). Err (Closed a b)) same.0 same.1 ∙ sym too
  row_fault_one First once x y (inl (f, n, is, p)) (inr (k, too, live, q)) =
      absurd (live f n p.here)
  row_fault_one First once x y (inr (j, is, live, p)) (inl (g, m, too, q)) =
      absurd (live g m q.here)
  row_fault_one First once x y (inr (j, is, live, p)) (inr (k, too, alive, q)) =
      is ∙ ap (λ (a : ℕ). Err (UnknownRow a)) (once j k p q) ∙ sym too

  no_row_fault : (First : ℕ → Type 0) (x : Answer) → IsLive box → ((k : ℕ) → First k → ⊥)
      → IsRowFault First x → ⊥
  no_row_fault First x live none (inl (f, n, is, p)) = live f n p.here
  no_row_fault First x live none (inr (k, is, alive, p)) = none k p

-- what a value says is one
answer_one : (weight : ℕ) (value : ℤ) (x y : Answer) → IsAnswerOf weight value x
    → IsAnswerOf weight value y → x ≡ y
answer_one weight value (Ok (AtLeast a)) (Ok (AtLeast b)) p q =
    ap (λ (z : ℤ). Ok (AtLeast z)) (rounded_same value weight a b p.1 q.1)
answer_one weight value (Ok (AtLeast a)) (Ok NoPlan) p q = absurd (omega (arith, p.0, q.0))
answer_one weight value (Ok (AtLeast a)) (Err e) p q = absurd (omega (arith, p.0, q.0))
answer_one weight value (Ok NoPlan) (Ok (AtLeast b)) p q = absurd (omega (arith, p.0, q.0))
answer_one weight value (Ok NoPlan) (Ok NoPlan) p q = refl
answer_one weight value (Ok NoPlan) (Err e) p q = absurd (omega (arith, ints, p.1, q.1))
answer_one weight value (Err d) (Ok (AtLeast b)) p q = absurd (omega (arith, p.0, q.0))
answer_one weight value (Err d) (Ok NoPlan) p q = absurd (omega (arith, ints, p.1, q.1))
answer_one weight value (Err d) (Err e) p q = ap Err (p.2 ∙ sym q.2)

module _ (parts : Parts) (box : Box) where
  cost_one : (a b : Bound) → IsScenario parts → IsUnitBox box → IsCostIn parts box a
      → IsCostIn parts box b → a ≡ b
  cost_one NoPlan NoPlan valid unit p q = refl
  cost_one NoPlan (AtLeast d) valid unit p q = absurd (p q.0 q.1)
  cost_one (AtLeast c) NoPlan valid unit p q = absurd (q p.0 p.1)
  cost_one (AtLeast c) (AtLeast d) valid unit (plan, kept, is) (other, too, costs) =
      ap AtLeast (sym is
      ∙ ap (plan_cost parts.tables parts.flights) (same_plan parts box other plan valid unit
      too.feasible too.inside kept.feasible kept.inside)
      ∙ costs)

  unit_one : (x y : Answer) → IsScenario parts → IsUnitBound parts box x
      → IsUnitBound parts box y → x ≡ y
  unit_one (Ok a) (Ok b) valid p q = ap Ok (cost_one a b valid p.0 p.1 q.1)
  unit_one (Ok a) (Err e) valid p (g, m, is, not) = absurd (not_both box g m p.0 not)
  unit_one (Err d) (Ok b) valid (f, n, is, not) q = absurd (not_both box f n q.0 not)
  unit_one (Err d) (Err e) valid (f, n, is, p) (g, m, too, q) =
      let same = not_unit_one box f n g m p q in
      ap Err (is ∙ ap₂ NotUnit same.0 same.1 ∙ sym too)

  module _ (pool : List CutName) (weight : ℕ) (rows : List Multiplier) where
    unknown_one : (j k : ℕ) → IsFirstUnknown parts pool rows j
        → IsFirstUnknown parts pool rows k → j ≡ k
    unknown_one j k p q =
        let low = not_less j k (λ less.
        clash _ (q.known_before j p.multiplier less p.here) p.unknown) in
        let high = not_less k j (λ less.
        clash _ (p.known_before k q.multiplier less q.here) q.unknown) in
        omega (arith, low, high)

    dual_fault : (x : Answer) → IsDualFault parts pool box rows x
        → IsRowFault box (IsFirstUnknown parts pool rows) x
    dual_fault (Ok bound) is = absurd is
    dual_fault (Err NotEmpty) is = absurd is
    dual_fault (Err (NotUnit f n)) is = absurd is
    dual_fault (Err (Closed f n)) is = inl (f, n, refl, is)
    dual_fault (Err (UnknownRow k)) is = inr (k, refl, is.0, is.1)
    dual_fault (Err (Useless value)) is = absurd is

    dual_one : (x y : Answer) → IsDualAnswer parts pool box weight rows x
        → IsDualAnswer parts pool box weight rows y → x ≡ y
    dual_one x y (inl p) (inl q) =
        answer_one weight p.value x y p.answered
        (subst (λ v. IsAnswerOf weight v y)
        (least_once (IsChoice parts.flights box) (dual_at parts pool weight rows) q.value p.value
        q.least p.least) q.answered)
    dual_one x y (inl p) (inr q) =
        absurd (no_row_fault box (IsFirstUnknown parts pool rows) y p.live
        (λ k first. clash _ (p.known k first.multiplier first.here) first.unknown)
        (dual_fault y q))
    dual_one x y (inr p) (inl q) =
        absurd (no_row_fault box (IsFirstUnknown parts pool rows) x q.live
        (λ k first. clash _ (q.known k first.multiplier first.here) first.unknown)
        (dual_fault x p))
    dual_one x y (inr p) (inr q) =
        row_fault_one box (IsFirstUnknown parts pool rows) unknown_one x y (dual_fault x p)
        (dual_fault y q)

  module _ (weight : ℕ) (rows : List Multiplier) where
    unpriceable_one : (j k : ℕ) → IsFirstUnpriceable parts rows j
        → IsFirstUnpriceable parts rows k → j ≡ k
    unpriceable_one j k p q =
        let low = not_less j k (λ less.
        clash _ (q.before j p.multiplier less p.here) p.unpriceable) in
        let high = not_less k j (λ less.
        clash _ (p.before k q.multiplier less q.here) q.unpriceable) in
        omega (arith, low, high)

    lag_fault : (x : Answer) → IsLagFault parts box rows x
        → IsRowFault box (IsFirstUnpriceable parts rows) x
    lag_fault (Ok bound) is = absurd is
    lag_fault (Err NotEmpty) is = absurd is
    lag_fault (Err (NotUnit f n)) is = absurd is
    lag_fault (Err (Closed f n)) is = inl (f, n, refl, is)
    lag_fault (Err (UnknownRow k)) is = inr (k, refl, is.0, is.1)
    lag_fault (Err (Useless value)) is = absurd is

    -- two tables that the same multipliers are
    priced_same : (a b : PriceTable) → ArePricedBy parts rows a → ArePricedBy parts rows b
        → AreSame parts a b
    priced_same a b p q = λ at within.
        p.each at (key_of parts a at p.size within)
        ∙ sym (q.each at (key_of parts b at q.size within))

    table_one : (a b : PriceTable) (x y : Answer) → IsScenario parts → AreSame parts a b
        → IsTableAnswer parts box weight a x → IsTableAnswer parts box weight b y → x ≡ y
    table_one a b x y valid same (inl p) (inl q) = p.none ∙ sym q.none
    table_one a b x y valid same (inl p) (inr q) =
        absurd (lacks_none parts box weight b q.value p.lacks q.priced)
    table_one a b x y valid same (inr p) (inl q) =
        absurd (lacks_none parts box weight a p.value q.lacks p.priced)
    table_one a b x y valid same (inr p) (inr q) =
        answer_one weight p.value x y p.answered
        (subst (λ v. IsAnswerOf weight v y)
        (sym (value_same parts valid a b same box weight p.value q.value p.priced q.priced))
        q.answered)

    lag_one : (x y : Answer) → IsScenario parts → IsLagAnswer parts box weight rows x
        → IsLagAnswer parts box weight rows y → x ≡ y
    lag_one x y valid (inl p) (inl q) =
        table_one p.table q.table x y valid (priced_same p.table q.table p.prices q.prices)
        p.answered q.answered
    lag_one x y valid (inl p) (inr q) =
        absurd (no_row_fault box (IsFirstUnpriceable parts rows) y p.live
        (λ k first. clash _ (p.priceable k first.multiplier first.here) first.unpriceable)
        (lag_fault y q))
    lag_one x y valid (inr p) (inl q) =
        absurd (no_row_fault box (IsFirstUnpriceable parts rows) x q.live
        (λ k first. clash _ (q.priceable k first.multiplier first.here) first.unpriceable)
        (lag_fault x p))
    lag_one x y valid (inr p) (inr q) =
        row_fault_one box (IsFirstUnpriceable parts rows) unpriceable_one x y (lag_fault x p)
        (lag_fault y q)

pub leaf_one : (parts : Parts) (pool : List CutName) (box : Box) (leaf : Leaf)
    (first second : Answer) → IsScenario parts → IsLeafBound parts pool box leaf first
    → IsLeafBound parts pool box leaf second → first ≡ second
leaf_one parts pool box Empty first second valid p q = empty_one box first second p q
leaf_one parts pool box UnitLeaf first second valid p q = unit_one parts box first second valid p q
leaf_one parts pool box (Dual weight rows) first second valid p q =
    dual_one parts box pool weight rows first second p q
leaf_one parts pool box (Lag weight rows) first second valid p q =
    lag_one parts box weight rows first second valid p q
