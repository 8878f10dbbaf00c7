-- What is answered to a certificate is what is answered to the words, where the day was read
-- before; and what an accepted claim says of all plans.
use Rattle.std.proofs.Common.{◌≡◌, ℕ, List, [], Option, None, Some, IfSome, Result, Ok, Err, refl, subst, inl, inr}
use Rattle.flow_outside.specs.Held.{Held}
use Rattle.flow_outside.specs.Seen.{AreKept, FilesSeen}
use Rattle.flow_types.specs.declared.parts.Parts.{Parts}
use Rattle.flow_types.specs.declared.plan.Stop.{Stop}
use Rattle.flow_types.specs.Bounds.{IsBound}
use Rattle.flow_types.specs.Feasible.{IsFeasible}
use Rattle.flow_types.specs.Valid.{IsScenario}
use Rattle.time_windows.specs.Boxes.{root_box}
use Rattle.time_windows.proofs.LawFacts.{root_plan}
use Rattle.certificate.specs.Limits.{most_cert_bytes}
use Rattle.cert_checker.specs.declared.claim.CertClaim.{CertClaim}
use Rattle.cert_checker.specs.Accepted.{cost_of}
use Rattle.cert_checker.specs.Checks.{IsChecked}
use Rattle.cert_checker.specs.Claims.{IsTrueClaim, IsTruePlan}
use Rattle.flow_cli.specs.declared.answer.Answer.{Answer}
use Rattle.flow_cli.specs.declared.answer.EarlyEnd.{EarlyEnd}
use Rattle.flow_cli.specs.declared.answer.EarlyEnd.TheVariants.{Answered, OutOfMemory}
use Rattle.flow_cli.specs.declared.status.Status.TheVariants.{Done}
use Rattle.flow_cli.specs.Answers.{IfAnswered}
use Rattle.command_words.specs.declared.command.View.{View}
use Rattle.flow_cli.specs.Checking.{IsOfCert, IsOfCheck, IsShown, TellsClaim, TellsFault, claimed_by}
use Rattle.flow_cli.specs.Outside.{Printed, change, printed_by}
use Rattle.flow_cli.specs.Reading.{IsSignedDay, IsTooMany}
use Rattle.flow_cli.proofs.JudgingFacts.{failed_since}
use Rattle.flow_cli.proofs.PlanningFacts.{bound_of_day}

module _ (parts : Parts) (valid : IsScenario parts) (claim : CertClaim)
    (holds : IsTrueClaim parts (root_box parts) claim) where
  pub claim_below : IsBound parts claim.bound
  claim_below =
      bound_of_day parts (root_box parts) claim.bound valid root_plan (λ f n. refl) holds.bound

  pub claim_feasible : IfSome claim.plan (IsFeasible parts)
  claim_feasible = by claim.plan holds.plan
    where
      by : (plan : Option (List (List Stop))) → IsTruePlan parts (root_box parts) plan claim.cost
          → IfSome plan (IsFeasible parts)
      by None is = tt
      by (Some plan) is = is.0.feasible

  pub claim_cost : claim.cost ≡ cost_of parts claim.plan
  claim_cost = by claim.plan holds.plan
    where
      by : (plan : Option (List (List Stop))) → IsTruePlan parts (root_box parts) plan claim.cost
          → claim.cost ≡ cost_of parts plan
      by None is = is
      by (Some plan) is = is.1

  pub tells_claim : (held : Option Held) (digest cert : List ℕ) (view : View) (answer : Printed)
      → IsChecked parts (root_box parts) digest held cert (Ok claim)
      → IsShown parts view (claimed_by claim) answer.text → answer.status ≡ Done
      → answer.records ≡ [] → TellsClaim held parts digest cert view answer
  tells_claim held digest cert view answer checked shown ends none = record {
    claim = claim;
    checked = checked;
    below = claim_below;
    feasible = claim_feasible;
    cost = claim_cost;
    ends = ends;
    text = shown;
    no_record = none;
  }

-- What holds of the files of a moment holds of those of an earlier one, from which on they were
-- kept.
module _ (before mid now : FilesSeen) (kept : AreKept before mid) (parts : Parts)
    (name digest cert : List ℕ) (view : View) (day : IsSignedDay before.held name parts digest)
  where
    since : (answer : Printed) → IsOfCert (change mid now) parts digest cert view answer
        → IsOfCert (change before now) parts digest cert view answer
    since answer (inl told) =
        inl (subst (λ (held : Option Held). TellsClaim held parts digest cert view answer) kept.held
        told)
    since answer (inr (inl fault)) =
        inr (inl (subst (λ (held : Option Held). TellsFault held parts digest cert answer) kept.held
        fault))
    since answer (inr (inr (inl many))) =
        inr (inr (inl (subst (λ (held : Option Held). IsTooMany most_cert_bytes held cert answer)
        kept.held many)))
    since answer (inr (inr (inr fault))) =
        inr (inr (inr (failed_since before mid now kept parts cert answer fault)))

    told : (answer : Printed) → IsOfCert (change mid now) parts digest cert view answer
        → IsOfCheck (change before now) name cert view answer
    told answer is = inl (record {
      parts = parts;
      day = day.day;
      of_cert = subst (λ d. IsOfCert (change before now) parts d cert view answer) day.signed
          (since answer is);
    })

    pub answered : (result : Result Answer EarlyEnd)
        → IfAnswered result (IsOfCert (change mid now) parts digest cert view)
        → IfAnswered result (IsOfCheck (change before now) name cert view)
    answered (Ok answer) is = told (printed_by answer) is
    answered (Err (Answered answer)) is = told (printed_by answer) is
    answered (Err OutOfMemory) is = tt
