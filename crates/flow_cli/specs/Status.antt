-- The numbers of the statuses, and how a planned day ends.
use Rattle.std.specs.Prelude.{ℕ, Option, ℤ}
use Rattle.flow_types.specs.declared.bound.Bound.{Bound}
use Rattle.delay_report.specs.Claims.{outcome_of}
use Rattle.delay_report.specs.declared.claim.Outcome.{Outcome}
use Rattle.delay_report.specs.declared.claim.Outcome.TheVariants as outcome
use Rattle.flow_cli.specs.declared.status.Status.{Status}
use Rattle.flow_cli.specs.declared.status.Status.TheVariants.{Done, Infeasible, OpenGap, BadScenario, BadCertificate, Usage, ReadFault, WriteFault, OutOfMemory, TooLong, Broken, BadPlan}

-- what the program ends with
abbrev pub number_of : Status → ℕ
number_of Done = 0
number_of Infeasible = 1
number_of OpenGap = 2
number_of BadScenario = 3
number_of BadCertificate = 4
number_of Usage = 5
number_of ReadFault = 6
number_of WriteFault = 7
number_of OutOfMemory = 8
number_of TooLong = 9
number_of Broken = 10
number_of BadPlan = 11

-- how a planned day ends, by the outcome of its claim
abbrev pub status_by : Outcome → Status
status_by outcome.Optimal = Done
status_by outcome.Infeasible = Infeasible
status_by outcome.Open = OpenGap

-- how it ends where the plan, if there is one, costs this and the bound is that
abbrev pub status_of : Option ℤ → Bound → Status
status_of cost bound = status_by (outcome_of cost bound)
