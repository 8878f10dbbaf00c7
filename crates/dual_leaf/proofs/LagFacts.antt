-- Multipliers that are prices, and what they say of a box.
use Rattle.std.proofs.Common.{◌≡◌, ◌≢◌, ◌⊎◌, ℕ, ◌+◌, ◌<◌, ◌≤◌, ◌^◌, true, false, Bool, ◌&&◌, nat_lt, if◌then◌else◌, List, [], ◌∷◌, ◌++◌, All, length, take, get_or, slice_get, Option, None, Some, IfOk, Result, Ok, Err, pos, ◌*ℤ◌, refl, sym, ap, ◌∙◌, subst, inl, inr, arith}
use Rattle.std.proofs.lemmas.Int.{ints}
use Rattle.std.proofs.lemmas.Bool.{cases_lt}
use Rattle.std.proofs.lemmas.Bool.Decides.{nat_tests}
use Rattle.std.proofs.lemmas.Option.{get_or_from_slice_get, slice_get-get_or}
use Rattle.std.proofs.lemmas.List.Elements.{All-head, All-tail}
use Rattle.std.proofs.Math.IntN.{*ℤ_comm, zero-*ℤ}
use Rattle.std.proofs.lemmas.List.{take_more}
use Rattle.flow_types.specs.declared.bound.Bound.{Bound}
use Rattle.flow_types.specs.declared.bound.Bound.TheVariants.{AtLeast, NoPlan}
use Rattle.flow_types.specs.declared.bound.PriceKey.{PriceKey}
use Rattle.flow_types.specs.declared.bound.PriceKind.TheVariants.{Capacity, Connection as Connected}
use Rattle.flow_types.specs.declared.parts.Parts.{Parts}
use Rattle.flow_types.specs.declared.place.CapKind.{CapKind}
use Rattle.flow_types.specs.declared.place.CapKind.TheVariants as cap
use Rattle.flow_types.specs.Capacities.{has_kind}
use Rattle.flow_types.specs.Costs.{plan_cost}
use Rattle.flow_types.specs.Valid.{IsScenario}
use Rattle.flow_types.proofs.PlaceFacts.{has_kind-within}
use Rattle.flight_routes.specs.Prices.{PriceTable, key_in, kind_number, price_at}
use Rattle.priced_plans.specs.Keys.{IsKeyFor}
use Rattle.priced_plans.specs.Valuing.{AreSmall}
use Rattle.priced_plans.proofs.KeyFacts.{itself, key_at}
use Rattle.priced_plans.proofs.SmallFacts.{key_moved}
use Rattle.priced_plans.proofs.ValueFacts.{none-inside, value-below}
use Rattle.time_windows.specs.Boxes.{Box}
use Rattle.bytime_model.specs.declared.multiplier.Multiplier.{Multiplier}
use Rattle.bytime_model.specs.declared.names.RowName.{RowName}
use Rattle.bytime_model.specs.declared.names.RowName.TheVariants.{Arr, Connect, Cut, Dep, Enter, Leave, Mono, Occupy, Sector, Top}
use Rattle.bytime_model.specs.Rows.{is_capacity}
use Rattle.dual_leaf.specs.declared.fault.LeafFault.{LeafFault}
use Rattle.dual_leaf.specs.Lag.{ArePricedBy, IsFirstUnpriceable, IsSetBy, is_key, is_priceable, set_by, set_on}
use Rattle.dual_leaf.specs.Leaf.{IsTableAnswer}
use Rattle.dual_leaf.specs.PriceRows.{key_of}
use Rattle.time_windows.specs.Plans.{IsBoundIn}

pub set-more : (rows : List Multiplier) (m : Multiplier) (at : PriceKey) (price : ℕ)
    → set_by (rows ++ m ∷ []) at price ≡ set_on (key_of m.row) m.value at (set_by rows at price)
set-more [] m at price = refl
set-more (first ∷ rows) m at price =
    set-more rows m at (set_on (key_of first.row) first.value at price)

-- rows that may have a price, one after another
abbrev pub ArePriceableTo : Parts → List Multiplier → ℕ → Type 0
ArePriceableTo parts rows count = (k : ℕ) (multiplier : Multiplier) → k < count
    → slice_get rows k ≡ Some multiplier → is_priceable parts multiplier.row ≡ true

pub priceable-more : (parts : Parts) (rows : List Multiplier) (i : ℕ) (d : Multiplier)
    → ArePriceableTo parts rows i → is_priceable parts (get_or rows i d).row ≡ true
    → ArePriceableTo parts rows (i + 1)
priceable-more parts rows i d before here k multiplier upto is =
    by (cases_lt k i)
  where
    by : (k < i) ⊎ (i ≤ k) → is_priceable parts multiplier.row ≡ true
    by (inl earlier) = before k multiplier earlier is
    by (inr late) =
        let same : k ≡ i = omega (arith, late, upto) in
        subst (λ (m : Multiplier). is_priceable parts m.row ≡ true)
        (get_or_from_slice_get rows i multiplier d (subst (λ j. slice_get rows j
        ≡ Some multiplier) same is)) here

pub first-unpriceable : (parts : Parts) (rows : List Multiplier) (i : ℕ) (d : Multiplier)
    → i < length rows → ArePriceableTo parts rows i
    → is_priceable parts (get_or rows i d).row ≡ false → IsFirstUnpriceable parts rows i
first-unpriceable parts rows i d within before here = record {
  multiplier = get_or rows i d;
  here = slice_get-get_or rows i d within;
  unpriceable = here;
  before = before;
}

-- what a price of a row is put on is there, where the row may have a price
both_true : (a b : Bool) → (a && b) ≡ true → (a ≡ true) × (b ≡ true)
both_true true b is = (refl, is)
both_true false b is = absurd (let e : false ≡ true = is in cc)

below : (a b : ℕ) → nat_lt a b ≡ true → a < b
below a b is = grind (arith, nat_tests)

capacity_there : (parts : Parts) (kind : CapKind) (place period : ℕ)
    → is_capacity parts kind place period ≡ true
    → IsKeyFor parts (key_in (Capacity kind) place period)
capacity_there parts kind place period is =
    let both = both_true (has_kind kind (slice_get parts.places place)) _ is in
    (has_kind-within kind parts.places place both.0, below period parts.day.periods both.1)

none_there : {A : Type 0} (k : PriceKey) → None ≡ Some k → A
none_there k is = absurd (let e : None ≡ Some k = is in cc)

some_there : (parts : Parts) (key k : PriceKey) → IsKeyFor parts key → Some key ≡ Some k
    → IsKeyFor parts k
some_there parts key k there is = let same : key ≡ k = cc in subst (IsKeyFor parts) same there

pub key_there : (parts : Parts) (name : RowName) (k : PriceKey) → key_of name ≡ Some k
    → is_priceable parts name ≡ true → IsKeyFor parts k
key_there parts (Dep place period) k is may =
    some_there parts (key_in (Capacity cap.Dep) place period) k
    (capacity_there parts cap.Dep place period may) is
key_there parts (Arr place period) k is may =
    some_there parts (key_in (Capacity cap.Arr) place period) k
    (capacity_there parts cap.Arr place period may) is
key_there parts (Sector place period) k is may =
    some_there parts (key_in (Capacity cap.Sector) place period) k
    (capacity_there parts cap.Sector place period may) is
key_there parts (Connect connection period) k is may =
    let both = both_true (nat_lt connection (length parts.connections)) _ may in
    some_there parts (key_in Connected connection period) k
    (below connection (length parts.connections) both.0, below period parts.day.periods both.1) is
key_there parts (Mono flight node period) k is may = none_there k is
key_there parts (Top flight node) k is may = none_there k is
key_there parts (Occupy flight node period) k is may = none_there k is
key_there parts (Enter flight node period) k is may = none_there k is
key_there parts (Leave flight node) k is may = none_there k is
key_there parts (Cut index) k is may = none_there k is

-- one price is set
pub one-set : (m : Multiplier) (named : PriceKey) (old new : PriceTable) (at : PriceKey)
    → key_of m.row ≡ Some named → price_at new named ≡ m.value
    → (at ≢ named → price_at new at ≡ price_at old at)
    → price_at new at ≡ set_on (key_of m.row) m.value at (price_at old at)
one-set m named old new at is here others =
    subst (λ z. price_at new at ≡ set_on z m.value at (price_at old at)) (sym is)
    (by (is_key named at) refl)
  where
    by : (b : Bool) → is_key named at ≡ b
        → price_at new at ≡ (if b then m.value else price_at old at)
    by true same = ap (price_at new) (key_at named at same) ∙ here
    by false other = others (λ same. absurd (cc (
      other,
      subst (λ o. is_key named o ≡ true) (sym same)
          (itself (kind_number named.kind) named.row named.period),
    )))

pub set-next : (rows : List Multiplier) (k : ℕ) (d : Multiplier) (at : PriceKey)
    → k < length rows
    → set_by (take (k + 1) rows) at 0
    ≡ set_on (key_of (get_or rows k d).row) (get_or rows k d).value at (set_by (take k rows) at 0)
set-next rows k d at within =
    ap (λ some. set_by some at 0) (take_more rows k d within)
    ∙ set-more (take k rows) (get_or rows k d) at 0

pub step-set : (parts : Parts) (rows : List Multiplier) (k : ℕ) (d : Multiplier)
    (old new : PriceTable) → k < length rows → ArePricedBy parts (take k rows) old
    → IsSetBy parts (get_or rows k d) old new → ArePricedBy parts (take (k + 1) rows) new
step-set parts rows k d old new within before set = record {
  size = set.size;
  each = λ at there. set.each at there
      ∙ ap (set_on (key_of (get_or rows k d).row) (get_or rows k d).value at)
      (before.each at (key_moved parts old new at before.size set.size there))
      ∙ sym (set-next rows k d at within);
}

-- prices that are set to small ones are small
set-on-small : (named : Option PriceKey) (value : ℕ) (at : PriceKey) (price : ℕ)
    → value < 2 ^ 62 → price < 2 ^ 62 → set_on named value at price < 2 ^ 62
set-on-small None value at price few small = small
set-on-small (Some named) value at price few small = by (is_key named at) where
  by : (b : Bool) → (if b then value else price) < 2 ^ 62
  by true = few
  by false = small

set-small : (rows : List Multiplier) (at : PriceKey) (price : ℕ)
    → All (λ m. m.value < 2 ^ 62) rows → price < 2 ^ 62 → set_by rows at price < 2 ^ 62
set-small [] at price few small = small
set-small (m ∷ rows) at price few small =
    set-small rows at (set_on (key_of m.row) m.value at price)
    (All-tail (λ (m : Multiplier). m.value < 2 ^ 62) m rows few)
    (set-on-small (key_of m.row) m.value at price
    (All-head (λ (m : Multiplier). m.value < 2 ^ 62) m rows few) small)

pub priced-small : (parts : Parts) (rows : List Multiplier) (table : PriceTable)
    → ArePricedBy parts rows table → All (λ m. m.value < 2 ^ 62) rows → AreSmall table
priced-small parts rows table is few = λ at there.
    let small = set-small rows at 0 few (omega arith) in
    omega (arith, is.each at there, small)

-- what a table says is true of all plans in the box
pub table-sound : (parts : Parts) (box : Box) (weight : ℕ) (table : PriceTable)
    (answer : Result Bound LeafFault) → IsScenario parts
    → IsTableAnswer parts box weight table answer → IfOk answer (IsBoundIn parts box)
table-sound parts box weight table answer valid (inl lack) =
    subst (λ z. IfOk z (IsBoundIn parts box)) (sym lack.none) (λ plan kept.
    none-inside parts box lack.lacks.number plan lack.lacks.within lack.lacks.none kept.feasible
    kept.inside)
table-sound parts box weight table (Err fault) valid (inr is) = tt
table-sound parts box weight table (Ok NoPlan) valid (inr is) = λ plan kept.
    let le = value-below parts box weight table is.value plan valid is.priced kept.feasible
    kept.inside in
    let zero_of = ap (λ w. pos w *ℤ plan_cost parts.tables parts.flights plan) is.answered.0
    ∙ zero-*ℤ (plan_cost parts.tables parts.flights plan) in
    omega (arith, ints, le, zero_of, is.answered.1)
table-sound parts box weight table (Ok (AtLeast least)) valid (inr is) = λ plan kept.
    let le = value-below parts box weight table is.value plan valid is.priced kept.feasible
    kept.inside in
    let turned = *ℤ_comm (pos weight) (plan_cost parts.tables parts.flights plan) in
    is.answered.1.below (plan_cost parts.tables parts.flights plan)
    (omega (arith, ints, le, turned))
