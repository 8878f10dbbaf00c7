-- What a run needs so that what its words ask for is done, and how it ends then.
use Rattle.std.specs.Prelude.{◌≡◌, ◌⊎◌, ℕ, ◌≤◌, List, length, Option, Some, Ok}
use Rattle.flow_outside.specs.Counts.{Rose}
use Rattle.flow_outside.specs.Held.{Held, bytes_told}
use Rattle.flow_outside.specs.Seen.{FilesSeen, SinkSeen}
use Rattle.flow_types.specs.declared.parts.Parts.{Parts}
use Rattle.flow_types.specs.declared.plan.Stop.{Stop}
use Rattle.flow_types.specs.Feasible.{IsFeasible}
use Rattle.flow_types.specs.Limits.{most_text_bytes}
use Rattle.time_windows.specs.Boxes.{root_box}
use Rattle.tree_search.specs.declared.found.Budget.{Budget}
use Rattle.plan_text.specs.Plans.{plan_of}
use Rattle.scenario_reader.specs.Reading.{scenario_of}
use Rattle.certificate.specs.Limits.{most_cert_bytes}
use Rattle.cert_checker.specs.declared.claim.CertClaim.{CertClaim}
use Rattle.cert_checker.specs.Verdicts.{IsVerdict}
use Rattle.flow_cli.specs.declared.answer.Ran.{Ran}
use Rattle.flow_cli.specs.declared.status.Status.{Status}
use Rattle.flow_cli.specs.declared.status.Status.TheVariants.{Done, Infeasible, OpenGap, OutOfMemory}
use Rattle.flow_cli.specs.Certifying.{IsTooLongDay}
use Rattle.flow_cli.specs.Outside.{Change}
use Rattle.flow_cli.specs.Planning.{IsEnough}

-- As far as the counts tell, no call failed: none of them rose or stands at its last value.
pub record NothingFailed (files : Change FilesSeen) (out : Change SinkSeen) : Type 0 where
  pub reads : Rose files.before.faults files.now.faults → ⊥
  pub stores : Rose files.before.store_faults files.now.store_faults → ⊥
  pub writes : Rose out.before.faults out.now.faults → ⊥

-- the files tell that the name holds these bytes, no more than so many
pub record HoldsBytes (most : ℕ) (held : Option Held) (name bytes : List ℕ) : Type 0 where
  pub told : bytes_told held name ≡ Some bytes
  pub within : length bytes ≤ most

-- the files tell that the name holds the text of this scenario
pub record HoldsDay (held : Option Held) (name : List ℕ) (parts : Parts) : Type 0 where
  pub bytes : List ℕ
  pub holds : HoldsBytes most_text_bytes held name bytes
  pub read : scenario_of bytes ≡ Ok parts

-- the files tell that the name holds a certificate without a fault, for the day whose text has this
-- digest
pub record HoldsCertificate (held : Option Held) (name : List ℕ) (parts : Parts)
    (digest : List ℕ) : Type 0 where
  pub bytes : List ℕ
  pub holds : HoldsBytes most_cert_bytes held name bytes
  pub claim : CertClaim
  pub accepted : IsVerdict parts (root_box parts) digest bytes (Ok claim)

-- the files tell that the name holds the text of a plan of the day, which keeps every rule
pub record HoldsPlan (held : Option Held) (name : List ℕ) (parts : Parts) : Type 0 where
  pub bytes : List ℕ
  pub holds : HoldsBytes most_text_bytes held name bytes
  pub plan : List (List Stop)
  pub read : plan_of parts bytes ≡ Ok plan
  pub feasible : IsFeasible parts plan

-- the work is done, or there was no memory for it
abbrev pub EndsDone : Status → Type 0
EndsDone Done = Unit {0}
EndsDone OutOfMemory = Unit {0}
EndsDone other = ⊥

-- The day is planned, or there was no memory for it. No gap is open where nodes are enough.
abbrev pub EndsPlanned : Parts → Budget → Status → Type 0
EndsPlanned parts budget Done = Unit {0}
EndsPlanned parts budget Infeasible = Unit {0}
EndsPlanned parts budget OpenGap = IsEnough parts budget → ⊥
EndsPlanned parts budget OutOfMemory = Unit {0}
EndsPlanned parts budget other = ⊥

-- The day is planned, or there was no memory for it, or the certificate of the record that is
-- handed back is too long, for the day whose text has this digest.
abbrev pub EndsCertified : Parts → List ℕ → Budget → Ran → Type 0
EndsCertified parts digest budget ran =
    EndsPlanned parts budget ran.status
    ⊎ ((text : List ℕ) × IsTooLongDay parts digest budget
    (record { text = text; status = ran.status; records = ran.records }))
