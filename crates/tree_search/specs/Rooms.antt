-- The rooms in which boxes are looked at. No public clause cites these.
use Rattle.std.specs.Prelude.{◌≡◌, ℕ}
use Rattle.flow_types.specs.declared.bound.Bound.{Bound}
use Rattle.flow_types.specs.declared.bound.Bound.TheVariants.{NoPlan}
use Rattle.flow_types.specs.declared.parts.Parts.{Parts}
use Rattle.flow_types.specs.Bounds.{IsNearBound}
use Rattle.flight_routes.specs.Prices.{PriceTable}
use Rattle.time_windows.specs.Boxes.{Box}
use Rattle.greedy_plan.specs.Work.{IsPlanRoomFor}
use Rattle.plan_improver.specs.Work.{IsSearchRoomFor}
use Rattle.priced_plans.specs.Keys.{ArePlaced}
use Rattle.priced_plans.specs.PricedBound.{IsPricedBound}
use Rattle.lagrange_bound.specs.Rounds.{cost_weight}
use Rattle.lagrange_bound.specs.Work.{IsRoomFor as IsRoundRoomFor}
use Rattle.price_ascent.specs.Work.{HasNone, IsAscentRoomFor, climb_weight}
use Rattle.dual_leaf.specs.Work.{IsRoomFor}
use Rattle.tree_search.specs.declared.pricing.Priced.{Priced}
use Rattle.tree_search.specs.declared.pricing.Source.{Source}
use Rattle.tree_search.specs.declared.pricing.Source.TheVariants.{Ascent, Closing, Rounds}
use Rattle.tree_search.specs.declared.rooms.PlanRooms.{PlanRooms}
use Rattle.tree_search.specs.declared.rooms.PriceRooms.{PriceRooms}
use Rattle.tree_search.specs.declared.rooms.Rooms.{Rooms}

pub record ArePlanRoomsFor (parts : Parts) (rooms : PlanRooms) : Type 0 where
  pub greedy : IsPlanRoomFor parts rooms.greedy
  pub improver : IsSearchRoomFor parts rooms.improver

pub record ArePriceRoomsFor (parts : Parts) (rooms : PriceRooms) : Type 0 where
  pub rounds : IsRoundRoomFor parts rooms.rounds
  pub ascent : IsAscentRoomFor parts rooms.ascent

pub record AreRoomsFor (parts : Parts) (rooms : Rooms) : Type 0 where
  pub plans : ArePlanRoomsFor parts rooms.plans
  pub leaves : IsRoomFor parts rooms.leaves
  pub prices : ArePriceRoomsFor parts rooms.prices

-- how much costs weigh beside the prices of a source, and the prices that it keeps
abbrev pub weight_from : Source → ℕ
weight_from Rounds = cost_weight
weight_from Ascent = climb_weight
weight_from Closing = 0

abbrev pub prices_from : PriceRooms → Source → PriceTable
prices_from rooms Rounds = rooms.rounds.best
prices_from rooms Ascent = rooms.ascent.best
prices_from rooms Closing = rooms.ascent.best

-- the prices that the source keeps tell the bound
abbrev pub Tells : Parts → Box → PriceRooms → Source → Bound → Type 0
Tells parts box rooms Rounds bound = IsPricedBound parts box cost_weight rooms.rounds.best bound
Tells parts box rooms Ascent bound = IsPricedBound parts box climb_weight rooms.ascent.best bound
Tells parts box rooms Closing bound = (bound ≡ NoPlan) × HasNone parts box rooms.ascent.best

-- what the best prices of a climb tell
pub record IsClimbed (parts : Parts) (box : Box) (prices : PriceTable) (bound : Bound) : Type 0
  where
    pub told : IsPricedBound parts box climb_weight prices bound
    pub near : IsNearBound bound
    pub placed : ArePlaced parts prices

pub record IsToldBy (parts : Parts) (box : Box) (rooms : PriceRooms) (priced : Priced)
    : Type 0 where
  pub bound : Tells parts box rooms priced.source priced.bound
  pub placed : ArePlaced parts (prices_from rooms priced.source)
