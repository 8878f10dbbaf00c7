-- The verdict on a text: its claim, or its first fault.
use Rattle.std.specs.Prelude.{◌≡◌, ℕ, ◌+◌, List, [], ◌∷◌, Option, None, Some, Result, Ok, Err, ℤ}
use Rattle.flow_types.specs.declared.parts.Parts.{Parts}
use Rattle.flow_types.specs.declared.plan.Stop.{Stop}
use Rattle.time_windows.specs.Boxes.{Box}
use Rattle.time_windows.specs.Tight.{IsTightened}
use Rattle.certificate.specs.declared.fault.LineFault.{LineFault}
use Rattle.certificate.specs.declared.item.CertItem.{CertItem}
use Rattle.certificate.specs.declared.stage.Stage.TheVariants as stage
use Rattle.certificate.specs.Reading.{Read, read_from}
use Rattle.cert_checker.specs.declared.claim.CertClaim.{CertClaim}
use Rattle.cert_checker.specs.declared.fault.CertCause.TheVariants as cause
use Rattle.cert_checker.specs.declared.fault.CertFault.{CertFault}
use Rattle.cert_checker.specs.declared.fault.StepFault.{StepFault}
use Rattle.cert_checker.specs.declared.progress.Progress.{Progress}
use Rattle.cert_checker.specs.declared.progress.Told.{Told}
use Rattle.cert_checker.specs.declared.progress.Told.TheVariants as told
use Rattle.cert_checker.specs.Fronts.{Front, front_at}
use Rattle.cert_checker.specs.Steps.{IsStep, Outcome, bad_kind, begun}

abbrev pub Verdict : Type 0
Verdict = Result CertClaim CertFault

-- a fault of the line of this number
abbrev pub fault_at : ℕ → StepFault → CertFault
fault_at line fault = record { line = line; field = fault.field; cause = fault.cause }

abbrev pub text_fault : LineFault → StepFault
text_fault fault = record { field = fault.field; cause = cause.Text fault.cause }

abbrev pub claim_with : Progress → Option (List (List Stop)) → Option ℤ → CertClaim
claim_with progress plan cost = record {
  plan = plan;
  cost = cost;
  bound = progress.bound;
  nodes = progress.nodes;
}

-- what was told, where all of it was
abbrev pub claim_told : Progress → Told → Result CertClaim StepFault
claim_told progress told.Nothing = Err bad_kind
claim_told progress (told.Trips cost trips) = Err bad_kind
claim_told progress told.NoPlan = Ok (claim_with progress None None)
claim_told progress (told.Whole cost plan) = Ok (claim_with progress (Some plan) (Some cost))

abbrev pub claim_at : Option Box → Progress → Result CertClaim StepFault
claim_at None progress = claim_told progress progress.told
claim_at (Some box) progress = Err bad_kind

abbrev pub in_line : ℕ → Result CertClaim StepFault → Verdict
in_line line (Ok claim) = Ok claim
in_line line (Err fault) = Err (fault_at line fault)

-- how a text ends
abbrev pub ending : ℕ → Option LineFault → Front → Progress → Verdict
ending line None front progress = in_line line (claim_at front.present progress)
ending line (Some fault) front progress = Err (fault_at line (text_fault fault))

-- after the line of an item
abbrev pub After : ℕ → Outcome → (Front → Progress → Type 0) → Verdict → Type 0
After line (Err fault) next verdict = verdict ≡ Err (fault_at line fault)
After line (Ok now) next verdict = next now.0 now.1

module _ (parts : Parts) (root : Box) (digest : List ℕ) where
  -- the items of a text from the line of this number on, and how it ends
  abbrev pub IsVerdictOn : ℕ → List CertItem → Option LineFault → Front → Progress → Verdict
      → Type 0
  IsVerdictOn line [] fault front progress verdict = verdict ≡ ending line fault front progress
  IsVerdictOn line (item ∷ items) fault front progress verdict =
      (outcome : Outcome) × IsStep parts root digest front progress item outcome
      × After line outcome
      (λ now told. IsVerdictOn (line + 1) items fault now told verdict) verdict

  abbrev pub Decides : ℕ → Read → Front → Progress → Verdict → Type 0
  Decides line read front progress verdict =
      IsVerdictOn line read.items read.fault front progress verdict

  -- of a text for the day whose text has this digest, on the first box
  pub record IsVerdict (text : List ℕ) (verdict : Verdict) : Type 0 where
    pub tight : Box
    pub tight_is : IsTightened parts root tight
    pub decided : Decides 1 (read_from parts stage.Head text) (front_at tight []) begun verdict
