-- What is answered where a plan of a day is to be judged.
use Rattle.std.specs.Prelude.{◌≡◌, ◌⊎◌, List, [], ℕ, Option, Some, Ok, Err}
use Rattle.flow_outside.specs.Held.{Held}
use Rattle.flow_outside.specs.Seen.{FilesSeen}
use Rattle.flow_types.specs.declared.fault.Fault.{Fault}
use Rattle.flow_types.specs.declared.parts.Parts.{Parts}
use Rattle.flow_types.specs.declared.plan.Stop.{Stop}
use Rattle.flow_types.specs.Costs.{plan_cost}
use Rattle.flow_types.specs.Feasible.{IsFeasible}
use Rattle.plan_rules.specs.BrokenRules.{IsFirstBroken}
use Rattle.plan_rules.specs.FirstBroken.{first_broken}
use Rattle.plan_rules.specs.declared.broken.Broken.{Broken as Rule}
use Rattle.plan_text.specs.Plans.{plan_of}
use Rattle.flow_cli.specs.declared.status.Status.TheVariants.{BadPlan, Broken, Done}
use Rattle.flow_cli.specs.Faults.{fault_text}
use Rattle.flow_cli.specs.Outside.{Change, Printed}
use Rattle.flow_cli.specs.Reading.{IsDayOf, IsTextOf, IsUnread, IsWithoutDay}
use Rattle.delay_report.specs.Verdicts.{broken_text, keeps_text}

-- the plan keeps every rule: its cost is printed
pub record TellsCost (parts : Parts) (plan : List (List Stop)) (answer : Printed) : Type 0 where
  pub feasible : IsFeasible parts plan
  pub ends : answer.status ≡ Done
  pub text : answer.text ≡ keeps_text (plan_cost parts.tables parts.flights plan)
  pub no_record : answer.records ≡ []

-- The plan breaks a rule: the first one is printed. It is broken with the values that are printed,
-- and each rule before it is kept.
pub record TellsBrokenRule (parts : Parts) (plan : List (List Stop))
    (answer : Printed) : Type 0 where
  pub rule : Rule
  pub first : first_broken parts plan ≡ Some rule
  pub broken : IsFirstBroken parts plan rule
  pub ends : answer.status ≡ Broken
  pub text : answer.text ≡ broken_text parts plan rule
  pub no_record : answer.records ≡ []

abbrev pub IsVerdict : Parts → List (List Stop) → Printed → Type 0
IsVerdict parts plan answer = TellsCost parts plan answer ⊎ TellsBrokenRule parts plan answer

-- the name holds the text of a plan, which is judged
pub record IsJudgedPlan (held : Option Held) (parts : Parts) (name : List ℕ)
    (answer : Printed) : Type 0 where
  pub bytes : List ℕ
  pub source : IsTextOf held name bytes
  pub plan : List (List Stop)
  pub read : plan_of parts bytes ≡ Ok plan
  pub verdict : IsVerdict parts plan answer

-- the name holds a text that is no plan of the day: what is printed is its first fault
pub record IsNoPlan (held : Option Held) (parts : Parts) (name : List ℕ)
    (answer : Printed) : Type 0 where
  pub bytes : List ℕ
  pub source : IsTextOf held name bytes
  pub fault : Fault
  pub read : plan_of parts bytes ≡ Err fault
  pub ends : answer.status ≡ BadPlan
  pub text : answer.text ≡ fault_text fault
  pub no_record : answer.records ≡ []

-- the answer where the plan of a day that was read is to be judged
abbrev pub IsOfPlanOf : Parts → Change FilesSeen → List ℕ → Printed → Type 0
IsOfPlanOf parts files name answer =
    IsJudgedPlan files.before.held parts name answer
    ⊎ (IsNoPlan files.before.held parts name answer ⊎ IsUnread files name answer)

-- the first name holds a day, and the answer is that to the plan of the second
pub record IsJudged (files : Change FilesSeen) (name plan_name : List ℕ)
    (answer : Printed) : Type 0 where
  pub parts : Parts
  pub day : IsDayOf files.before.held name parts
  pub judged : IsOfPlanOf parts files plan_name answer

-- the answer where the plan of the second name is to be judged by the day of the first
abbrev pub IsOfJudge : Change FilesSeen → List ℕ → List ℕ → Printed → Type 0
IsOfJudge files name plan_name answer = IsJudged files name plan_name answer
    ⊎ IsWithoutDay files name answer
