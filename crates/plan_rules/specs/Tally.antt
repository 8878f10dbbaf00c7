-- What loads are seen as.
use Rattle.std.specs.Prelude.{ℕ, List, Option}

-- a count for each place and period, place after place
pub record CountGrid : Type 0 where
  pub places : ℕ
  pub periods : ℕ
  pub counts : List ℕ

-- the counts of a day, and when each flight that is there departs and arrives
pub record Tally : Type 0 where
  pub departures : CountGrid
  pub arrivals : CountGrid
  pub inside : CountGrid
  pub leaves : List (Option ℕ)
  pub arrives : List (Option ℕ)
