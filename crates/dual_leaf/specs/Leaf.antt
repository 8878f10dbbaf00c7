-- The bound of a leaf on a tight box, or why it has none.
use Rattle.std.specs.Prelude.{◌≡◌, ◌⊎◌, ◌≢◌, ℕ, ◌^◌, ◌<◌, List, Result, Ok, Err, ℤ, pos, ◌≤ℤ◌}
use Rattle.flow_types.specs.declared.bound.Bound.{Bound}
use Rattle.flow_types.specs.declared.bound.Bound.TheVariants.{AtLeast, NoPlan}
use Rattle.flow_types.specs.declared.parts.Parts.{Parts}
use Rattle.flow_types.specs.declared.plan.Stop.{Stop}
use Rattle.flow_types.specs.Costs.{plan_cost}
use Rattle.flight_routes.specs.Prices.{PriceTable}
use Rattle.priced_plans.specs.PricedBound.{IsRoundedUp}
use Rattle.flow_types.specs.Bounds.{IsNearBound, IsNearer}
use Rattle.priced_plans.specs.Values.{IsPricedValue}
use Rattle.priced_plans.specs.Valuing.{LacksTrip}
use Rattle.time_windows.specs.Boxes.{Box, IsClosedMust, options_of}
use Rattle.time_windows.specs.Plans.{HasNoPlan, IsPlanIn}
use Rattle.time_windows.specs.Tight.{IsEarlierNode, IsFirstClosed, IsLive}
use Rattle.branch_tree.specs.declared.leaf.Leaf.{Leaf}
use Rattle.branch_tree.specs.declared.leaf.Leaf.TheVariants.{Dual, Empty, Lag, Unit as UnitLeaf}
use Rattle.bytime_model.specs.declared.multiplier.Multiplier.{Multiplier}
use Rattle.cut_rows.specs.declared.names.CutName.{CutName}
use Rattle.dual_leaf.specs.declared.fault.LeafFault.{LeafFault}
use Rattle.dual_leaf.specs.declared.fault.LeafFault.TheVariants.{Closed, NotEmpty, NotUnit, UnknownRow, Useless}
use Rattle.dual_sums.specs.Dual.{AreKnown, IsDualValue, IsFirstUnknown}
use Rattle.dual_leaf.specs.Lag.{ArePriceable, ArePricedBy, IsFirstUnpriceable}

abbrev pub IsEmptyBound : Box → Result Bound LeafFault → Type 0
IsEmptyBound box (Ok bound) = (bound ≡ NoPlan) × ((f : ℕ) × (n : ℕ) × IsClosedMust (box f n))
IsEmptyBound box (Err fault) = (fault ≡ NotEmpty) × IsLive box

-- the first node with no choice, or with several
pub record IsFirstOther (box : Box) (flight node : ℕ) : Type 0 where
  pub here : options_of (box flight node) ≢ 1
  pub ones_before : (f n : ℕ) → IsEarlierNode f n flight node → options_of (box f n) ≡ 1

abbrev pub IsUnitBox : Box → Type 0
IsUnitBox box = (f n : ℕ) → options_of (box f n) ≡ 1

-- what the plan in the box costs that keeps every rule, or that there is none
abbrev pub IsCostIn : Parts → Box → Bound → Type 0
IsCostIn parts box NoPlan = HasNoPlan parts box
IsCostIn parts box (AtLeast cost) = (plan : List (List Stop)) × IsPlanIn parts box plan
    × (plan_cost parts.tables parts.flights plan ≡ cost)

-- the first node that must be entered and is closed, or else the first without exactly one choice
abbrev pub IsNotUnit : Box → ℕ → ℕ → Type 0
IsNotUnit box flight node =
    IsFirstClosed box flight node ⊎ (IsLive box × IsFirstOther box flight node)

abbrev pub IsUnitBound : Parts → Box → Result Bound LeafFault → Type 0
IsUnitBound parts box (Ok bound) = IsUnitBox box × IsCostIn parts box bound
IsUnitBound parts box (Err fault) =
    (flight : ℕ) × (node : ℕ) × (fault ≡ NotUnit flight node) × IsNotUnit box flight node

-- what a value says by its weight: that, divided by it and rounded up
abbrev pub IsAnswerOf : ℕ → ℤ → Result Bound LeafFault → Type 0
IsAnswerOf weight value (Ok (AtLeast least)) = (0 < weight) × IsRoundedUp value weight least
IsAnswerOf weight value (Ok NoPlan) = (weight ≡ 0) × (pos 1 ≤ℤ value)
IsAnswerOf weight value (Err fault) = (weight ≡ 0) × (value ≤ℤ pos 0) × (fault ≡ Useless value)

-- The box is live and all rows are there: what the value says.
pub record IsDualBound (parts : Parts) (pool : List CutName) (box : Box) (weight : ℕ)
    (rows : List Multiplier) (answer : Result Bound LeafFault) : Type 0 where
  pub live : IsLive box
  pub known : AreKnown parts pool rows
  pub value : ℤ
  pub least : IsDualValue parts pool box weight rows value
  pub answered : IsAnswerOf weight value answer

-- why a Dual leaf has no value: the first node that must be entered and is closed, or, in a live
-- box, the first row that isn't there
abbrev pub IsDualFault : Parts → List CutName → Box → List Multiplier → Result Bound LeafFault
    → Type 0
IsDualFault parts pool box rows (Ok bound) = ⊥
IsDualFault parts pool box rows (Err NotEmpty) = ⊥
IsDualFault parts pool box rows (Err (NotUnit flight node)) = ⊥
IsDualFault parts pool box rows (Err (Closed flight node)) = IsFirstClosed box flight node
IsDualFault parts pool box rows (Err (UnknownRow position)) =
    IsLive box × IsFirstUnknown parts pool rows position
IsDualFault parts pool box rows (Err (Useless value)) = ⊥

abbrev pub IsDualAnswer : Parts → List CutName → Box → ℕ → List Multiplier
    → Result Bound LeafFault → Type 0
IsDualAnswer parts pool box weight rows answer =
    IsDualBound parts pool box weight rows answer ⊎ IsDualFault parts pool box rows answer

-- some flight has no trip in the box, whatever the weight
pub record IsLackAnswer (parts : Parts) (box : Box) (answer : Result Bound LeafFault) : Type 0 where
  pub lacks : LacksTrip parts box
  pub none : answer ≡ Ok NoPlan

-- the answer is what the value of the prices says
pub record IsPriceAnswer (parts : Parts) (box : Box) (weight : ℕ) (table : PriceTable)
    (answer : Result Bound LeafFault) : Type 0 where
  pub value : ℤ
  pub priced : IsPricedValue parts box weight table value
  pub answered : IsAnswerOf weight value answer

abbrev pub IsTableAnswer : Parts → Box → ℕ → PriceTable → Result Bound LeafFault → Type 0
IsTableAnswer parts box weight table answer =
    IsLackAnswer parts box answer ⊎ IsPriceAnswer parts box weight table answer

-- The box is live and all rows may have a price: what the prices say.
pub record IsLagBound (parts : Parts) (box : Box) (weight : ℕ) (rows : List Multiplier)
    (answer : Result Bound LeafFault) : Type 0 where
  pub live : IsLive box
  pub priceable : ArePriceable parts rows
  pub table : PriceTable
  pub prices : ArePricedBy parts rows table
  pub answered : IsTableAnswer parts box weight table answer

-- why a Lag leaf has no prices: the first node that must be entered and is closed, or, in a live
-- box, the first row that may have no price
abbrev pub IsLagFault : Parts → Box → List Multiplier → Result Bound LeafFault → Type 0
IsLagFault parts box rows (Ok bound) = ⊥
IsLagFault parts box rows (Err NotEmpty) = ⊥
IsLagFault parts box rows (Err (NotUnit flight node)) = ⊥
IsLagFault parts box rows (Err (Closed flight node)) = IsFirstClosed box flight node
IsLagFault parts box rows (Err (UnknownRow position)) =
    IsLive box × IsFirstUnpriceable parts rows position
IsLagFault parts box rows (Err (Useless value)) = ⊥

abbrev pub IsLagAnswer : Parts → Box → ℕ → List Multiplier → Result Bound LeafFault → Type 0
IsLagAnswer parts box weight rows answer =
    IsLagBound parts box weight rows answer ⊎ IsLagFault parts box rows answer

abbrev pub IsLeafBound : Parts → List CutName → Box → Leaf → Result Bound LeafFault → Type 0
IsLeafBound parts pool box Empty answer = IsEmptyBound box answer
IsLeafBound parts pool box UnitLeaf answer = IsUnitBound parts box answer
IsLeafBound parts pool box (Dual weight rows) answer = IsDualAnswer parts pool box weight rows
    answer
IsLeafBound parts pool box (Lag weight rows) answer = IsLagAnswer parts box weight rows answer

-- not too far from 0, though prices may be large beside the weight
abbrev pub IsNearPriced : Bound → Type 0
IsNearPriced bound = IsNearer (2 ^ 124) bound

-- nearer where the leaf isn't one of prices
abbrev pub IsNearOf : Leaf → Bound → Type 0
IsNearOf Empty bound = IsNearBound bound
IsNearOf UnitLeaf bound = IsNearBound bound
IsNearOf (Dual weight rows) bound = IsNearBound bound
IsNearOf (Lag weight rows) bound = IsNearPriced bound
