-- The leaf that prices are.
use Rattle.std.specs.Prelude.{◌≡◌, ℕ, List, Ok, ℤ, pos, ◌≤ℤ◌}
use Rattle.flow_types.specs.declared.bound.Bound.{Bound}
use Rattle.flow_types.specs.declared.bound.Bound.TheVariants.{NoPlan}
use Rattle.flow_types.specs.declared.parts.Parts.{Parts}
use Rattle.flight_routes.specs.Prices.{PriceTable}
use Rattle.priced_plans.specs.PricedBound.{IsPricedBound}
use Rattle.priced_plans.specs.Values.{IsPricedValue}
use Rattle.time_windows.specs.Boxes.{Box}
use Rattle.bytime_model.specs.Multipliers.{AreAscending, ArePositive}
use Rattle.branch_tree.specs.declared.leaf.Leaf.{Leaf}
use Rattle.branch_tree.specs.declared.leaf.Leaf.TheVariants.{Lag}
use Rattle.bytime_model.specs.declared.multiplier.Multiplier.{Multiplier}
use Rattle.cut_rows.specs.declared.names.CutName.{CutName}
use Rattle.dual_leaf.specs.Lag.{ArePriceable, ArePricedBy}
use Rattle.time_windows.specs.Tight.{IsLive}
use Rattle.dual_leaf.specs.Leaf.{IsLeafBound}

-- the Lag leaf of this weight whose multipliers are the prices
pub record IsLagOf (parts : Parts) (weight : ℕ) (table : PriceTable) (leaf : Leaf) : Type 0 where
  pub rows : List Multiplier
  pub is : leaf ≡ Lag weight rows
  pub priceable : ArePriceable parts rows
  pub positive : ArePositive rows
  pub ascending : AreAscending rows
  pub priced : ArePricedBy parts rows table

-- in any live box what the prices tell is the bound of the leaf, whatever the pool
abbrev pub TellsAs : Parts → ℕ → PriceTable → Leaf → Type 0
TellsAs parts weight table leaf =
    (pool : List CutName) (box : Box) (bound : Bound) → IsLive box
    → IsPricedBound parts box weight table bound
    → IsLeafBound parts pool box leaf (Ok bound)

-- where the value of the prices at weight 0 is above 0, the leaf says that there is no plan
abbrev pub Closes : Parts → PriceTable → Leaf → Type 0
Closes parts table leaf =
    (pool : List CutName) (box : Box) (value : ℤ) → IsLive box
    → IsPricedValue parts box 0 table value → pos 1 ≤ℤ value → IsLeafBound parts pool box leaf
    (Ok NoPlan)
