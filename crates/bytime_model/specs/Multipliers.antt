-- Rows, and how often each is counted.
use Rattle.std.specs.Prelude.{ℕ, ◌^◌, ◌<◌, List, length, All, AllPairs}
use Rattle.bytime_model.specs.declared.multiplier.Multiplier.{Multiplier}
use Rattle.bytime_model.specs.Order.{IsBefore}

-- the weight and the multipliers are below 2^62, and there are fewer than 2^32 of these
pub record HasRange (weight : ℕ) (rows : List Multiplier) : Type 0 where
  pub weight_to : weight < 2 ^ 62
  pub values : All (λ multiplier. multiplier.value < 2 ^ 62) rows
  pub few : length rows < 2 ^ 32

-- no multiplier is 0, and each row is named once, in the order of rows
abbrev pub ArePositive : List Multiplier → Type 0
ArePositive rows = All (λ multiplier. 0 < multiplier.value) rows

abbrev pub AreAscending : List Multiplier → Type 0
AreAscending rows = AllPairs (λ before after. IsBefore before.row after.row) rows
