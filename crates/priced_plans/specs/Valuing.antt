-- The value of prices as it is found, step by step.
use Rattle.std.specs.Prelude.{ℕ, ◌*◌, ◌<◌, ◌^◌, List, length, sum_by}
use Rattle.std.specs.List.{range_with_len}
use Rattle.flow_types.specs.declared.bound.PriceKey.{PriceKey}
use Rattle.flow_types.specs.declared.bound.PriceKind.TheVariants.{Capacity}
use Rattle.flow_types.specs.declared.parts.Parts.{Parts}
use Rattle.flow_types.specs.declared.place.CapKind.{CapKind}
use Rattle.flow_types.specs.declared.plan.Stop.{Stop}
use Rattle.flow_types.specs.Capacities.{capacity_of}
use Rattle.flight_routes.specs.Inside.{IsTripIn}
use Rattle.flight_routes.specs.Prices.{IsKeyOf, PriceTable, block_of, price_at, price_in}
use Rattle.time_windows.specs.Boxes.{Box}

-- every price is one that may be set
abbrev pub AreSmall : PriceTable → Type 0
AreSmall table = (key : PriceKey) → IsKeyOf table key → price_at table key < 2 ^ 62

-- some flight has no trip in the box
pub record LacksTrip (parts : Parts) (box : Box) : Type 0 where
  pub number : ℕ
  pub within : number < length parts.flights
  pub none : (stops : List Stop) → IsTripIn parts box number stops → ⊥

-- what the capacity of a place in a period would pay, and those of all periods together
abbrev pub cell_price : Parts → CapKind → PriceTable → ℕ → ℕ → ℕ
cell_price parts kind table k t =
    price_in (block_of (Capacity kind) table) k t * capacity_of parts.places kind k t

abbrev pub row_price : Parts → CapKind → PriceTable → ℕ → ℕ
row_price parts kind table k =
    sum_by (cell_price parts kind table k) (range_with_len 0 parts.day.periods)
