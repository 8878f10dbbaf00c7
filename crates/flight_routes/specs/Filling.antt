-- What changes in a table of rates, and what stays.
use Rattle.std.specs.Prelude.{◌≡◌, ◌≢◌, ◌<◌, ℕ, ◌*◌, ◌^◌, IfSome, length, pos, replicate}
use Rattle.flow_types.specs.Limits.{most_nodes, most_periods}
use Rattle.time_windows.specs.declared.ends.End.{End}
use Rattle.time_windows.specs.declared.ends.End.TheVariants.{Arrival, Departure}
use Rattle.flight_routes.specs.RateLists.{RateLists, rates_of}
use Rattle.flight_routes.specs.Rates.{rate_at}
use Rattle.exact_sums.specs.Near.{IsNear}

-- what leaving costs, and nothing else
pub record OnlyLeaves (old new : RateLists) : Type 0 where
  pub span : new.span ≡ old.span
  pub arrives : new.arrives ≡ old.arrives
  pub paid : new.paid ≡ old.paid
  pub clear : new.clear ≡ old.clear

-- what arriving costs, and nothing else
pub record OnlyArrives (old new : RateLists) : Type 0 where
  pub span : new.span ≡ old.span
  pub leaves : new.leaves ≡ old.leaves
  pub paid : new.paid ≡ old.paid
  pub clear : new.clear ≡ old.clear

abbrev pub OnlyEnd : End → RateLists → RateLists → Type 0
OnlyEnd Departure old new = OnlyLeaves old new
OnlyEnd Arrival old new = OnlyArrives old new

-- what being at one node has cost, and nothing else
pub record OnlyPaid (node : ℕ) (old new : RateLists) : Type 0 where
  pub span : new.span ≡ old.span
  pub leaves : new.leaves ≡ old.leaves
  pub arrives : new.arrives ≡ old.arrives
  pub clear : new.clear ≡ old.clear
  pub others : (n t : ℕ) → n ≢ node → t < most_periods
      → (rates_of new).paid n t ≡ (rates_of old).paid n t

-- what being at nodes has cost, and nothing else
pub record OnlyStays (old new : RateLists) : Type 0 where
  pub span : new.span ≡ old.span
  pub leaves : new.leaves ≡ old.leaves
  pub arrives : new.arrives ≡ old.arrives
  pub clear : new.clear ≡ old.clear

-- how long one node is clear, and nothing else
pub record OnlyClear (node : ℕ) (old new : RateLists) : Type 0 where
  pub cells : length new.clear ≡ length old.clear
  pub span : new.span ≡ old.span
  pub leaves : new.leaves ≡ old.leaves
  pub arrives : new.arrives ≡ old.arrives
  pub paid : new.paid ≡ old.paid
  pub others : (n t : ℕ) → n ≢ node → t < most_periods
      → (rates_of new).clear n t ≡ (rates_of old).clear n t

-- what leaving, arriving or staying costs is small
abbrev pub AreLeavesSmall : RateLists → Type 0
AreLeavesSmall lists = (t : ℕ) → IfSome ((rates_of lists).leaves t) (IsNear (2 ^ 110))

abbrev pub AreArrivesSmall : RateLists → Type 0
AreArrivesSmall lists = (t : ℕ) → IfSome ((rates_of lists).arrives t) (IsNear (2 ^ 110))

abbrev pub AreSmallAt : End → RateLists → Type 0
AreSmallAt end lists =
    (t : ℕ) → IfSome (rate_at end (rates_of lists) t) (IsNear (2 ^ 110))

abbrev pub ArePaidSmall : RateLists → Type 0
ArePaidSmall lists = (n t : ℕ) → IsNear (2 ^ 100) ((rates_of lists).paid n t)

-- A table for prices: no time before the first sector costs anything, every node is clear, and what
-- it holds is small.
pub record IsPriceTable (lists : RateLists) : Type 0 where
  pub free : (t : ℕ) → t < most_periods → (rates_of lists).paid 0 t ≡ pos 0
  pub clear : lists.clear ≡ replicate (most_nodes * most_periods) most_periods
  pub leaves : AreLeavesSmall lists
  pub arrives : AreArrivesSmall lists
  pub paid : ArePaidSmall lists

-- A table beside loads: staying costs nothing, there is no full period before the first sector, and
-- what it holds is small.
pub record IsFitTable (lists : RateLists) : Type 0 where
  pub cells : length lists.clear ≡ most_nodes * most_periods
  pub free : lists.paid ≡ replicate (most_nodes * most_periods) (pos 0)
  pub first : (t : ℕ) → t < most_periods → (rates_of lists).clear 0 t ≡ most_periods
  pub leaves : AreLeavesSmall lists
  pub arrives : AreArrivesSmall lists
