-- The rates of prices, where the trip fits.
use Rattle.std.specs.Prelude.{◌≡◌, ℕ, ◌+◌, length, Option, None, Some, ℤ}
use Rattle.flow_types.specs.declared.flight.Flight.{Flight}
use Rattle.time_windows.specs.declared.access.Access.{Access}
use Rattle.time_windows.specs.Boxes.{IsInWindow}
use Rattle.flight_routes.specs.RateLists.{RateLists}
use Rattle.flight_routes.specs.Rates.{Rates}

-- the second one, where both are there
abbrev pub if_both : Option ℤ → Option ℤ → Option ℤ
if_both None value = None
if_both (Some fit) value = value

-- what is clear in the one table is clear in the other, and the other way round
pub record AreExchanged (old other new now : RateLists) : Type 0 where
  pub clear : new.clear ≡ other.clear
  pub back : now.clear ≡ old.clear
  pub span : new.span ≡ old.span
  pub leaves : new.leaves ≡ old.leaves
  pub arrives : new.arrives ≡ old.arrives
  pub paid : new.paid ≡ old.paid
  pub other_span : now.span ≡ other.span
  pub other_leaves : now.leaves ≡ other.leaves
  pub other_arrives : now.arrives ≡ other.arrives
  pub other_paid : now.paid ≡ other.paid

-- leaving and arriving cost what they do under prices, where the trip fits; a stay is paid as under
-- prices, and is as long as one that fits
pub record ArePricedFitRates (flight : Flight) (row : ℕ → Access) (fit price rates : Rates)
    : Type 0 where
  pub leaves : (t : ℕ) → IsInWindow (row 0).window t
      → rates.leaves t ≡ if_both (fit.leaves t) (price.leaves t)
  pub arrives : (n t : ℕ) → n + 1 ≡ length flight.nodes → IsInWindow (row n).window t
      → rates.arrives t ≡ if_both (fit.arrives t) (price.arrives t)
  pub paid : (n t : ℕ) → rates.paid n t ≡ price.paid n t
  pub clear : (n t : ℕ) → rates.clear n t ≡ fit.clear n t
