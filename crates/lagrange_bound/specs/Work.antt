-- What rounds are seen as, and how far they have come.
use Rattle.std.specs.Prelude.{ℕ, ◌*◌, ◌^◌, ◌≤◌, length}
use Rattle.flow_types.specs.declared.bound.Bound.{Bound}
use Rattle.flow_types.specs.declared.bound.Bound.TheVariants.{AtLeast, NoPlan}
use Rattle.flow_types.specs.declared.bound.PriceKey.{PriceKey}
use Rattle.flow_types.specs.declared.parts.Parts.{Parts}
use Rattle.flight_routes.specs.Prices.{ArePricesOf, PriceTable, price_at}
use Rattle.flight_routes.specs.Work.{IsWorkFor, Worked}
use Rattle.plan_rules.specs.Tally.{Tally}
use Rattle.plan_rules.specs.Loads.{IsMadeFor}
use Rattle.time_windows.specs.Boxes.{Box}
use Rattle.lagrange_bound.specs.Best.{IsMostOfRounds, IsOneOfRounds}
use Rattle.priced_plans.specs.Keys.{IsKeyFor}
use Rattle.lagrange_bound.specs.Moves.{most_rise}
use Rattle.lagrange_bound.specs.Rounds.{IsRoundTable, IsTableBound}
use Rattle.lagrange_bound.specs.Taking.{HaveTaken}

-- how many rounds there may be
abbrev pub most_rounds : ℕ
most_rounds = 2 ^ 18

-- the prices of the last round and those that are kept, and the room for trips and their counts
pub record RoundRoom : Type 0 where
  pub prices : PriceTable
  pub best : PriceTable
  pub work : Worked
  pub loads : Tally

-- made for the scenario
pub record IsRoomFor (parts : Parts) (room : RoundRoom) : Type 0 where
  pub prices : ArePricesOf parts room.prices
  pub best : ArePricesOf parts room.best
  pub work : IsWorkFor parts room.work
  pub loads : IsMadeFor parts room.loads

-- as low as prices are after so many rounds
abbrev pub AreLow : Parts → ℕ → PriceTable → Type 0
AreLow parts rounds table =
    (key : PriceKey) → IsKeyFor parts key → price_at table key ≤ rounds * most_rise

-- the loads count the least trips under the prices, where there is a bound for their sake
abbrev pub AreTakenFor : Parts → Box → PriceTable → Tally → Bound → Type 0
AreTakenFor parts box table loads NoPlan = Unit {0}
AreTakenFor parts box table loads (AtLeast least) =
    HaveTaken parts box table (length parts.flights) loads

-- the best of so many rounds is kept
pub record IsBest (parts : Parts) (box : Box) (rounds : ℕ) (best : PriceTable) (bound : Bound)
    : Type 0 where
  pub size : ArePricesOf parts best
  pub one : IsOneOfRounds parts box rounds best
  pub told : IsTableBound parts box best bound
  pub most : IsMostOfRounds parts box rounds bound

-- so many rounds are played, and the last prices are told
pub record ArePlayed (parts : Parts) (box : Box) (rounds : ℕ) (prices best : PriceTable)
    (loads : Tally) (bound : Bound) : Type 0 where
  pub size : ArePricesOf parts prices
  pub table : IsRoundTable parts box rounds prices
  pub low : AreLow parts rounds prices
  pub last : (told : Bound) × IsTableBound parts box prices told
  pub taken : AreTakenFor parts box prices loads bound
  pub kept : IsBest parts box rounds best bound
