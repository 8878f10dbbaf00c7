-- What the work on least trips is seen as.
use Rattle.std.specs.Prelude.{◌≡◌, ℕ, List}
use Rattle.flow_types.specs.declared.parts.Parts.{Parts}
use Rattle.flow_types.specs.declared.plan.Stop.{Stop}

-- the stops of the last least trip, and how many periods the work was made for
pub record Worked : Type 0 where
  pub trip : List Stop
  pub periods : ℕ

pub record IsWorkFor (parts : Parts) (work : Worked) : Type 0 where
  pub periods : work.periods ≡ parts.day.periods
