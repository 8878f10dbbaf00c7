-- Where a variable counts in a sum over positions.
use Rattle.std.specs.Prelude.{ℕ, ◌<◌, List}
use Rattle.flow_types.specs.declared.flight.Flight.{Flight}
use Rattle.flow_types.specs.declared.parts.Parts.{Parts}
use Rattle.time_windows.specs.Boxes.{Box}
use Rattle.time_windows.specs.Held.{Held, IsMadeFor, box_of}
use Rattle.bytime_model.specs.declared.columns.Column.{Column}
use Rattle.bytime_model.specs.declared.landing.Landing.{Landing}
use Rattle.bytime_model.specs.declared.landing.Landing.TheVariants.{At, Nowhere, Surely}
use Rattle.bytime_model.specs.declared.left.Left.{Left}
use Rattle.bytime_model.specs.declared.left.Left.TheVariants.{Free, One, Same, Zero}
use Rattle.bytime_model.specs.declared.variables.Var.{Var}
use Rattle.bytime_model.specs.Columns.{IsNumbered, IsWhole, Numbering, position_of}
use Rattle.bytime_model.specs.Left.{left_of}

-- by what the box leaves of the variable
abbrev pub landing_by : List Column → Var → Left → Landing
landing_by columns variable Zero = Nowhere
landing_by columns variable One = Surely
landing_by columns variable (Same other) = At (position_of columns other)
landing_by columns variable Free = At (position_of columns variable)

abbrev pub landing_of : List Column → List Flight → Box → Var → Landing
landing_of columns flights box variable =
    landing_by columns variable (left_of flights box variable)

-- what is 0, 1, or what is said of the position
abbrev pub landed : (ℕ → ℕ) → Landing → ℕ
landed bit Nowhere = 0
landed bit Surely = 1
landed bit (At position) = bit position

-- the values of variables, where the free ones have what is said of their positions
abbrev pub choice : List Column → List Flight → Box → (ℕ → ℕ) → Var → ℕ
choice columns flights box bit variable = landed bit (landing_of columns flights box variable)

abbrev pub IsLandingWithin : ℕ → Landing → Type 0
IsLandingWithin count Nowhere = Unit {0}
IsLandingWithin count Surely = Unit {0}
IsLandingWithin count (At position) = position < count

-- of this scenario, with the columns that its tight boxes have
pub record IsReady (parts : Parts) (numbering : Numbering) (held : Held) : Type 0 where
  pub made : IsMadeFor parts held
  pub numbered : IsNumbered parts numbering (box_of held)
  pub whole : IsWhole parts.flights (box_of held)

-- the values of variables in the box, by what is said of the positions
abbrev pub choice_in : Parts → Numbering → Held → (ℕ → ℕ) → Var → ℕ
choice_in parts numbering held = choice numbering.columns parts.flights (box_of held)
