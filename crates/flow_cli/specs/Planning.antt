-- What is answered where a day is to be planned.
use Rattle.std.specs.Prelude.{◌≡◌, ◌⊎◌, ℕ, ◌+◌, ◌*◌, ◌<◌, ◌≤◌, List, [], ◌∷◌, length, Option, IfSome}
use Rattle.flow_outside.specs.Held.{Held}
use Rattle.flow_outside.specs.Seen.{FilesSeen}
use Rattle.flow_types.specs.declared.parts.Parts.{Parts}
use Rattle.flow_types.specs.Bounds.{IsBound}
use Rattle.flow_types.specs.Feasible.{IsFeasible}
use Rattle.time_windows.specs.Boxes.{Box, root_box}
use Rattle.time_windows.specs.Tight.{IsTightened}
use Rattle.tree_search.specs.Budgets.{options_in}
use Rattle.tree_search.specs.Records.{IsSearchRecord, last_cost, last_plan}
use Rattle.tree_search.specs.declared.found.Budget.{Budget}
use Rattle.tree_search.specs.declared.found.Found.{Found}
use Rattle.flow_cli.specs.declared.status.Status.TheVariants.{OpenGap}
use Rattle.flow_cli.specs.Outside.{Change, Printed}
use Rattle.flow_cli.specs.Reading.{IsDayOf, IsWithoutDay}
use Rattle.flow_cli.specs.Status.{status_of}
use Rattle.delay_report.specs.Texts.{report_text}

-- the bound is a number below that cost, or there is no plan
abbrev pub IsOpen : Parts → Found → Type 0
IsOpen parts found = status_of (last_cost parts found) found.bound ≡ OpenGap

-- the node budget was spent: a split would add two nodes, and fewer are left
abbrev pub IsSpent : Budget → Found → Type 0
IsSpent budget found = budget.nodes < length found.tree + 2

-- the node budget is enough for any search of the day
pub record IsEnough (parts : Parts) (budget : Budget) : Type 0 where
  pub tight : Box
  pub tight_is : IsTightened parts (root_box parts) tight
  pub nodes : 2 * options_in parts tight ≤ budget.nodes + 1

-- A record is handed back, and its last plan, if there is one, what that costs, the bound and the
-- number of nodes are printed.
pub record TellsRecord (parts : Parts) (found : Found) (answer : Printed) : Type 0 where
  pub records : answer.records ≡ found ∷ []
  pub text : answer.text ≡ report_text parts (last_plan found) found.bound (length found.tree)
  pub ends : answer.status ≡ status_of (last_cost parts found) found.bound

-- What is printed of a day is the record of a search of all its plans: the last plan, if there is
-- one, which keeps every rule, what it costs, the bound, which no plan is cheaper than, and the
-- number of nodes. The gap between the two is open only where the node budget was spent, and never
-- where it is enough.
pub record IsPlannedDay (parts : Parts) (budget : Budget) (answer : Printed) : Type 0 where
  pub found : Found
  pub told : TellsRecord parts found answer
  pub searched : IsSearchRecord parts (root_box parts) budget found
  pub feasible : IfSome (last_plan found) (IsFeasible parts)
  pub below : IsBound parts found.bound
  pub spent : answer.status ≡ OpenGap → IsSpent budget found
  pub closed : IsEnough parts budget → answer.status ≡ OpenGap → ⊥

-- the name holds a day, which is planned
pub record IsPlanned (held : Option Held) (name : List ℕ) (budget : Budget)
    (answer : Printed) : Type 0 where
  pub parts : Parts
  pub day : IsDayOf held name parts
  pub planned : IsPlannedDay parts budget answer

-- the answer where the day of a name is to be planned, by a search that may spend so much
abbrev pub IsOfPlan : Change FilesSeen → List ℕ → Budget → Printed → Type 0
IsOfPlan files name budget answer =
    IsPlanned files.before.held name budget answer ⊎ IsWithoutDay files name answer
