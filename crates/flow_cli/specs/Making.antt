-- What is answered where a day is to be made, or made and planned.
use Rattle.std.specs.Prelude.{◌≡◌, ℕ, List, [], ◌∷◌, ◌++◌, length, IfSome, Ok, codes}
use Rattle.std.specs.Fmt.{decimal}
use Rattle.flow_types.specs.declared.parts.Parts.{Parts}
use Rattle.flow_types.specs.Bounds.{IsBound}
use Rattle.flow_types.specs.Feasible.{IsFeasible}
use Rattle.time_windows.specs.Boxes.{root_box}
use Rattle.tree_search.specs.Records.{IsSearchRecord, last_cost, last_plan}
use Rattle.tree_search.specs.declared.found.Budget.{Budget}
use Rattle.tree_search.specs.declared.found.Found.{Found}
use Rattle.text_records.specs.Lines.{line_text}
use Rattle.text_records.specs.Rows.{rows_of}
use Rattle.scenario_reader.specs.Reading.{scenario_of}
use Rattle.scenario_maker.specs.Made.{made_text}
use Rattle.delay_report.specs.Claims.{Claimed}
use Rattle.delay_report.specs.Texts.{claim_text}
use Rattle.flow_cli.specs.declared.status.Status.TheVariants.{Done, OpenGap}
use Rattle.flow_cli.specs.Outside.{Printed}
use Rattle.flow_cli.specs.Planning.{IsEnough, IsSpent}
use Rattle.flow_cli.specs.Status.{status_of}

-- its text is printed
pub record IsOfMake (count : ℕ) (answer : Printed) : Type 0 where
  pub ends : answer.status ≡ Done
  pub text : answer.text ≡ made_text count
  pub no_record : answer.records ≡ []

-- what a trial's search may spend
abbrev pub trial_budget : Budget
trial_budget = record {
  nodes = 21;
  limits = record { pivots = 500; cells = 2000000 };
  rounds = 16;
}

-- so many flights were asked for; the records of the day's text, its flights and its connections
abbrev pub trial_lines : ℕ → ℕ → Parts → List ℕ
trial_lines count records parts =
    line_text (codes "trial,") (decimal count)
    ++ (line_text (codes "records,") (decimal records)
    ++ (line_text (codes "flights,") (decimal (length parts.flights))
    ++ line_text (codes "connections,") (decimal (length parts.connections))))

abbrev pub trial_text : ℕ → ℕ → Parts → Claimed → List ℕ
trial_text count records parts claimed =
    trial_lines count records parts
    ++ claim_text claimed.cost claimed.bound claimed.nodes

-- what a record claims
abbrev pub claimed_of : Parts → Found → Claimed
claimed_of parts found = record {
  plan = last_plan found;
  cost = last_cost parts found;
  bound = found.bound;
  nodes = length found.tree;
}

-- A record is handed back, and what is claimed by it is printed behind the lines of its day.
pub record TellsTrial (count : ℕ) (parts : Parts) (found : Found) (answer : Printed)
    : Type 0 where
  pub records : answer.records ≡ found ∷ []
  pub text : answer.text
      ≡ trial_text count (length (rows_of (made_text count))) parts (claimed_of parts found)
  pub ends : answer.status ≡ status_of (last_cost parts found) found.bound

-- The made text is read as a day, and what is printed is the record of a search of all its plans,
-- as for a day that is planned.
pub record IsOfTrial (count : ℕ) (answer : Printed) : Type 0 where
  pub parts : Parts
  pub day : scenario_of (made_text count) ≡ Ok parts
  pub found : Found
  pub told : TellsTrial count parts found answer
  pub searched : IsSearchRecord parts (root_box parts) trial_budget found
  pub feasible : IfSome (last_plan found) (IsFeasible parts)
  pub below : IsBound parts found.bound
  pub spent : answer.status ≡ OpenGap → IsSpent trial_budget found
  pub closed : IsEnough parts trial_budget → answer.status ≡ OpenGap → ⊥
