-- No answer is that it wasn't written, but for one to a certificate that wasn't stored.
use Rattle.std.proofs.Common.{◌≡◌, ◌∙◌, sym, inl, inr, ℕ, List, Option, None, Some}
use Rattle.sha2.specs.Sha256.{sha256}
use Rattle.flow_outside.specs.Counts.{Rose}
use Rattle.flow_outside.specs.Seen.{FilesSeen}
use Rattle.flow_types.specs.declared.parts.Parts.{Parts}
use Rattle.flow_types.specs.Limits.{most_text_bytes}
use Rattle.certificate.specs.Limits.{most_cert_bytes}
use Rattle.tree_search.specs.declared.found.Budget.{Budget}
use Rattle.flow_types.specs.declared.plan.Stop.{Stop}
use Rattle.delay_report.specs.Claims.{outcome_of}
use Rattle.delay_report.specs.declared.claim.Outcome.{Outcome}
use Rattle.delay_report.specs.declared.claim.Outcome.TheVariants as outcome
use Rattle.flow_cli.specs.declared.status.Status.TheVariants.{BadCertificate, BadPlan, BadScenario, Broken, Done, Infeasible, OpenGap, ReadFault, TooLong, Usage, WriteFault}
use Rattle.tree_search.specs.Records.{last_cost}
use Rattle.flow_cli.specs.Answer.{IsAnswer}
use Rattle.flow_cli.specs.Certifying.{IsOfDay}
use Rattle.flow_cli.specs.Checking.{IsOfCert}
use Rattle.command_words.specs.declared.command.View.{View}
use Rattle.flow_cli.specs.Judging.{IsOfPlanOf, IsVerdict}
use Rattle.flow_cli.specs.Outside.{Change, Printed}
use Rattle.flow_cli.specs.Planning.{IsPlannedDay}
use Rattle.flow_cli.specs.Reading.{IsFailed, IsTooMany, IsUnread, IsWithoutDay}
use Rattle.flow_cli.specs.Status.{status_by}
use Rattle.command_words.specs.Words.{Asked, Checked, Judged, Made, Planned, Tried}
use Rattle.flow_cli.specs.Words.{budget_of}

of_day : (o : Outcome) → status_by o ≡ WriteFault → ⊥
of_day outcome.Optimal is = let e : Done ≡ WriteFault = is in cc
of_day outcome.Infeasible is = let e : Infeasible ≡ WriteFault = is in cc
of_day outcome.Open is = let e : OpenGap ≡ WriteFault = is in cc

module _ (files : Change FilesSeen) (name : List ℕ) (answer : Printed)
    (fault : answer.status ≡ WriteFault) where
  of_many : (most : ℕ) → IsTooMany most files.before.held name answer → ⊥
  of_many most is = let e : TooLong ≡ WriteFault = sym is.ends ∙ fault in cc

  of_failed : IsFailed files name answer → ⊥
  of_failed is = let e : ReadFault ≡ WriteFault = sym is.ends ∙ fault in cc

  of_unread : IsUnread files name answer → ⊥
  of_unread (inl is) = of_many most_text_bytes is
  of_unread (inr is) = of_failed is

  of_no_day : IsWithoutDay files name answer → ⊥
  of_no_day (inl is) = let e : BadScenario ≡ WriteFault = sym is.refused.ends ∙ fault in cc
  of_no_day (inr is) = of_unread is

  of_verdict : (parts : Parts) (plan : List (List Stop)) → IsVerdict parts plan answer → ⊥
  of_verdict parts plan (inl is) = let e : Done ≡ WriteFault = sym is.ends ∙ fault in cc
  of_verdict parts plan (inr is) = let e : Broken ≡ WriteFault = sym is.ends ∙ fault in cc

  of_plan : (parts : Parts) → IsOfPlanOf parts files name answer → ⊥
  of_plan parts (inl is) = of_verdict parts is.plan is.verdict
  of_plan parts (inr (inl is)) = let e : BadPlan ≡ WriteFault = sym is.ends ∙ fault in cc
  of_plan parts (inr (inr is)) = of_unread is

  of_cert : (parts : Parts) (digest : List ℕ) (view : View)
      → IsOfCert files parts digest name view answer → ⊥
  of_cert parts digest view (inl is) = let e : Done ≡ WriteFault = sym is.ends ∙ fault in cc
  of_cert parts digest view (inr (inl is)) =
      let e : BadCertificate ≡ WriteFault = sym is.ends ∙ fault in cc
  of_cert parts digest view (inr (inr (inl is))) = of_many most_cert_bytes is
  of_cert parts digest view (inr (inr (inr is))) = of_failed is

  of_planned : (parts : Parts) (budget : Budget) → IsPlannedDay parts budget answer → ⊥
  of_planned parts budget is =
      of_day (outcome_of (last_cost parts is.found) is.found.bound) (sym is.told.ends ∙ fault)

-- it is only that a certificate wasn't stored
of_stored : (files : Change FilesSeen) (parts : Parts) (digest cert : List ℕ) (budget : Budget)
    (answer : Printed) → answer.status ≡ WriteFault
    → IsOfDay files parts digest cert budget answer
    → Rose files.before.store_faults files.now.store_faults
of_stored files parts digest cert budget answer fault (inl is) =
    absurd (of_planned files cert answer fault parts budget is.certified.planned)
of_stored files parts digest cert budget answer fault (inr (inl is)) =
    is.unstored.failed
of_stored files parts digest cert budget answer fault (inr (inr is)) =
    absurd (let e : TooLong ≡ WriteFault = sym is.long.ends ∙ fault in cc)

pub write_fault : (files : Change FilesSeen) (what : Option Asked) (answer : Printed)
    → IsAnswer files what answer → answer.status ≡ WriteFault
    → Rose files.before.store_faults files.now.store_faults
write_fault files None answer is fault =
    absurd (let e : Usage ≡ WriteFault = sym is.ends ∙ fault in cc)
write_fault files (Some (Planned name limits None)) answer (inl is) fault =
    absurd (of_planned files name answer fault is.parts (budget_of limits) is.planned)
write_fault files (Some (Planned name limits None)) answer (inr is) fault =
    absurd (of_no_day files name answer fault is)
write_fault files (Some (Planned name limits (Some cert))) answer (inl is) fault =
    of_stored files is.parts (sha256 is.day.bytes) cert (budget_of limits) answer fault is.of_day
write_fault files (Some (Planned name limits (Some cert))) answer (inr is) fault =
    absurd (of_no_day files name answer fault is.without)
write_fault files (Some (Checked name cert view)) answer (inl is) fault =
    absurd (of_cert files cert answer fault is.parts (sha256 is.day.bytes) view is.of_cert)
write_fault files (Some (Checked name cert view)) answer (inr is) fault =
    absurd (of_no_day files name answer fault is)
write_fault files (Some (Judged name plan)) answer (inl is) fault =
    absurd (of_plan files plan answer fault is.parts is.judged)
write_fault files (Some (Judged name plan)) answer (inr is) fault =
    absurd (of_no_day files name answer fault is)
write_fault files (Some (Made count)) answer is fault =
    absurd (let e : Done ≡ WriteFault = sym is.ends ∙ fault in cc)
write_fault files (Some (Tried count)) answer is fault =
    absurd (of_day (outcome_of (last_cost is.parts is.found) is.found.bound)
    (sym is.told.ends ∙ fault))
