-- A run that has what it needs, and in which no call failed, does what its words ask for.
use Rattle.std.proofs.Common.{◌≡◌, ◌∙◌, ◌⊎◌, ℕ, List, [], Option, None, Some, Result, Ok, Err, IsSome, refl, sym, ap, subst, inl, inr, arith}
use Rattle.sha2.specs.Sha256.{sha256}
use Rattle.flow_outside.specs.Counts.{Rose}
use Rattle.flow_outside.specs.Held.{Held, HasName, bytes_told}
use Rattle.flow_outside.specs.Seen.{FilesSeen, SinkSeen}
use Rattle.flow_types.specs.declared.parts.Parts.{Parts}
use Rattle.flow_types.specs.declared.plan.Stop.{Stop}
use Rattle.flow_types.specs.Limits.{most_text_bytes}
use Rattle.plan_rules.proofs.BrokenPlans.{feasible_to}
use Rattle.plan_rules.specs.FirstBroken.{first_broken}
use Rattle.plan_rules.specs.declared.broken.Broken.{Broken as Rule}
use Rattle.time_windows.specs.Boxes.{root_box}
use Rattle.tree_search.specs.declared.found.Budget.{Budget}
use Rattle.tree_search.specs.declared.found.Found.{Found}
use Rattle.tree_search.specs.Records.{last_cost}
use Rattle.plan_text.specs.Plans.{plan_of}
use Rattle.scenario_reader.specs.Reading.{scenario_of}
use Rattle.scenario_reader.proofs.ValidTexts.{text_is}
use Rattle.scenario_maker.specs.Made.{made_parts}
use Rattle.scenario_maker.proofs.ReadBack.{made_back}
use Rattle.certificate.specs.Limits.{most_cert_bytes}
use Rattle.cert_checker.specs.declared.fault.CertFault.{CertFault}
use Rattle.cert_checker.specs.Verdicts.{IsVerdict}
use Rattle.cert_checker.proofs.OneVerdict.{one_verdict}
use Rattle.command_words.specs.declared.command.SearchLimits.{SearchLimits}
use Rattle.command_words.specs.declared.command.View.{View}
use Rattle.command_words.specs.Words.{Asked, Checked, Judged, Made, Planned, Tried, asked}
use Rattle.command_words.proofs.AskedFacts.{asked_line}
use Rattle.delay_report.specs.Claims.{outcome_of}
use Rattle.delay_report.specs.declared.claim.Outcome.{Outcome}
use Rattle.delay_report.specs.declared.claim.Outcome.TheVariants as outcome
use Rattle.flow_cli.specs.declared.answer.Ran.{Ran}
use Rattle.flow_cli.specs.declared.status.Status.{Status}
use Rattle.flow_cli.specs.declared.status.Status.TheVariants.{OpenGap, OutOfMemory}
use Rattle.flow_cli.specs.Answer.{Ends, IsAnswer}
use Rattle.flow_cli.specs.Certifying.{IsOfCertified, IsOfDay, IsTooLongDay}
use Rattle.flow_cli.specs.Checking.{IsOfCert, IsOfCheck}
use Rattle.flow_cli.specs.Complete.{EndsCertified, EndsDone, EndsPlanned, HoldsBytes, HoldsCertificate, HoldsDay, HoldsPlan, NothingFailed}
use Rattle.flow_cli.specs.Judging.{IsOfJudge, IsOfPlanOf, TellsBrokenRule, TellsCost}
use Rattle.flow_cli.specs.Making.{IsOfTrial, trial_budget}
use Rattle.flow_cli.specs.Outside.{Change, Printed}
use Rattle.flow_cli.specs.Planning.{IsEnough, IsOfPlan, IsPlannedDay}
use Rattle.flow_cli.specs.Reading.{IsDayOf, IsFailed, IsTextOf, IsTooMany, IsUnread, IsWithoutDay}
use Rattle.flow_cli.specs.Status.{status_by}
use Rattle.flow_cli.specs.Words.{budget_of}

-- what is read of one text is one thing
one_read : {A E : Type 0} {read : Result A E} {a b : A} → read ≡ Ok a → read ≡ Ok b → a ≡ b
one_read first second = cc

not_both : {A E : Type 0} {read : Result A E} {a : A} {e : E} → read ≡ Ok a → read ≡ Err e → ⊥
not_both first second = cc

-- a name of which bytes are told is there
is_there : (held : Option Held) (name bytes : List ℕ) → bytes_told held name ≡ Some bytes
    → HasName held name
is_there None name bytes told = tt
is_there (Some held) name bytes told = subst IsSome (sym told) refl

-- It is read where no read failed.
module _ (files : Change FilesSeen) (reads : Rose files.before.faults files.now.faults → ⊥)
    (name : List ℕ) (answer : Printed) where
  not_failed : (most : ℕ) (bytes : List ℕ) → HoldsBytes most files.before.held name bytes
      → IsFailed files name answer → ⊥
  not_failed most bytes holds is =
      reads (is.failed (is_there files.before.held name bytes holds.told))

  not_many : (most : ℕ) (bytes : List ℕ) → HoldsBytes most files.before.held name bytes
      → IsTooMany most files.before.held name answer → ⊥
  not_many most bytes holds is =
      let size = is.source bytes holds.told in
      let above = is.above in
      let within = holds.within in
      omega (arith, size, above, within)

  not_unread : (bytes : List ℕ) → HoldsBytes most_text_bytes files.before.held name bytes
      → IsUnread files name answer → ⊥
  not_unread bytes holds (inl is) = not_many most_text_bytes bytes holds is
  not_unread bytes holds (inr is) = not_failed most_text_bytes bytes holds is

  not_without : (parts : Parts) → HoldsDay files.before.held name parts
      → IsWithoutDay files name answer → ⊥
  not_without parts day (inl is) =
      not_both day.read
      (ap scenario_of (sym (is.source.source day.bytes day.holds.told)) ∙ is.refused.read)
  not_without parts day (inr is) = not_unread day.bytes day.holds is

-- the day that is read is the one of the text
module _ (held : Option Held) (name : List ℕ) (parts other : Parts)
    (day : HoldsDay held name parts) (is : IsDayOf held name other) where
  same_bytes : is.bytes ≡ day.bytes
  same_bytes = is.text.source day.bytes day.holds.told

  same_day : other ≡ parts
  same_day = one_read is.read (ap scenario_of same_bytes ∙ day.read)

-- how a day that is planned ends
ended_by : (parts : Parts) (budget : Budget) (o : Outcome)
    → (IsEnough parts budget → status_by o ≡ OpenGap → ⊥)
    → EndsPlanned parts budget (status_by o)
ended_by parts budget outcome.Optimal closed = tt
ended_by parts budget outcome.Infeasible closed = tt
ended_by parts budget outcome.Open closed = λ enough. closed enough refl

told_end : (parts : Parts) (budget : Budget) (o : Outcome) (status : Status)
    → status ≡ status_by o → (IsEnough parts budget → status ≡ OpenGap → ⊥)
    → EndsPlanned parts budget status
told_end parts budget o status is closed =
    subst (EndsPlanned parts budget) (sym is)
    (ended_by parts budget o (λ enough gap. closed enough (is ∙ gap)))

planned_end : (parts : Parts) (budget : Budget) (answer : Printed)
    → IsPlannedDay parts budget answer → EndsPlanned parts budget answer.status
planned_end parts budget answer is =
    told_end parts budget (outcome_of (last_cost parts is.found) is.found.bound) answer.status
    is.told.ends is.closed

-- What the answers to what is asked for are, so is the end of a run in which nothing failed.
module _ (files : Change FilesSeen) (out : Change SinkSeen) (words : List (List ℕ)) (ran : Ran)
    (ends : Ends files out words ran) (unfailed : NothingFailed files out) where
  end_of : (what : Asked) (P : Status → List Found → Type 0) → asked words ≡ Some what
      → P OutOfMemory []
      → ((answer : Printed) → IsAnswer files (Some what) answer
      → P answer.status answer.records)
      → P ran.status ran.records
  end_of what P is none each = by ends
    where
      by : Ends files out words ran → P ran.status ran.records
      by (inl written) =
          let told : P written.answer.status written.answer.records =
          each written.answer
          (subst (λ o. IsAnswer files o written.answer) is written.of_words) in
          subst (λ status. P status ran.records) (sym written.ends)
          (subst (P written.answer.status) (sym written.records) told)
      by (inr (inl cut)) = absurd (unfailed.writes cut.failed)
      by (inr (inr unwritten)) =
          subst (λ status. P status ran.records) (sym unwritten.ends)
          (subst (P OutOfMemory) (sym unwritten.no_record) none)

  status_of_end : (what : Asked) (P : Status → Type 0) → asked words ≡ Some what → P OutOfMemory
      → ((answer : Printed) → IsAnswer files (Some what) answer → P answer.status)
      → P ran.status
  status_of_end what P is none each = end_of what (λ status records. P status) is none each

  pub planned : (name : List ℕ) (limits : SearchLimits) (parts : Parts)
      → asked words ≡ Some (Planned name limits None) → HoldsDay files.before.held name parts
      → EndsPlanned parts (budget_of limits) ran.status
  planned name limits parts is day =
      status_of_end (Planned name limits None) (EndsPlanned parts (budget_of limits)) is tt each
    where
      each : (answer : Printed) → IsOfPlan files name (budget_of limits) answer
          → EndsPlanned parts (budget_of limits) answer.status
      each answer (inl told) =
          subst (λ p. EndsPlanned p (budget_of limits) answer.status)
          (same_day files.before.held name parts told.parts day told.day)
          (planned_end told.parts (budget_of limits) answer told.planned)
      each answer (inr told) =
          absurd (not_without files unfailed.reads name answer parts day told)

  pub certified : (name cert : List ℕ) (limits : SearchLimits) (parts : Parts)
      → asked words ≡ Some (Planned name limits (Some cert))
      → (day : HoldsDay files.before.held name parts)
      → EndsCertified parts (sha256 day.bytes) (budget_of limits) ran
  certified name cert limits parts is day =
      end_of (Planned name limits (Some cert)) (EndsSo parts (sha256 day.bytes)) is (inl tt) each
    where
      EndsSo : Parts → List ℕ → Status → List Found → Type 0
      EndsSo parts digest status records =
          EndsPlanned parts (budget_of limits) status
          ⊎ ((text : List ℕ) × IsTooLongDay parts digest (budget_of limits)
          (record { text = text; status = status; records = records }))

      of_day : (parts : Parts) (digest : List ℕ) (answer : Printed)
          → IsOfDay files parts digest cert (budget_of limits) answer
          → EndsSo parts digest answer.status answer.records
      of_day parts digest answer (inl told) =
          inl (planned_end parts (budget_of limits) answer told.certified.planned)
      of_day parts digest answer (inr (inl told)) = absurd (unfailed.stores told.unstored.failed)
      of_day parts digest answer (inr (inr told)) = inr (answer.text, told.long)

      each : (answer : Printed) → IsOfCertified files name cert (budget_of limits) answer
          → EndsSo parts (sha256 day.bytes) answer.status answer.records
      each answer (inl told) =
          subst (λ p. EndsSo p (sha256 day.bytes) answer.status answer.records)
          (same_day files.before.held name parts told.parts day told.day)
          (subst (λ bytes. EndsSo told.parts (sha256 bytes) answer.status answer.records)
          (same_bytes files.before.held name parts told.parts day told.day)
          (of_day told.parts (sha256 told.day.bytes) answer told.of_day))
      each answer (inr told) =
          absurd (not_without files unfailed.reads name answer parts day told.without)

  pub checked : (name cert : List ℕ) (view : View) (parts : Parts)
      → asked words ≡ Some (Checked name cert view)
      → (day : HoldsDay files.before.held name parts)
      → HoldsCertificate files.before.held cert parts (sha256 day.bytes) → EndsDone ran.status
  checked name cert view parts is day accepted =
      status_of_end (Checked name cert view) EndsDone is tt each
    where
      refused : (fault : CertFault) → IsVerdict parts (root_box parts) (sha256 day.bytes)
          accepted.bytes (Err fault) → ⊥
      refused fault verdict =
          let e : Ok accepted.claim ≡ Err fault =
          one_verdict parts (text_is day.bytes parts day.read) (root_box parts) (sha256 day.bytes)
          accepted.bytes (Ok accepted.claim) (Err fault) accepted.accepted verdict in
          cc

      of_cert : (answer : Printed)
          → IsOfCert files parts (sha256 day.bytes) cert view answer → EndsDone answer.status
      of_cert answer (inl told) = subst EndsDone (sym told.ends) tt
      of_cert answer (inr (inl told)) =
          absurd (refused told.fault
          (subst (λ text. IsVerdict parts (root_box parts) (sha256 day.bytes) text (Err told.fault))
          (sym (told.checked.told accepted.bytes accepted.holds.told)) told.checked.is))
      of_cert answer (inr (inr (inl told))) =
          absurd (not_many files unfailed.reads cert answer most_cert_bytes accepted.bytes
          accepted.holds told)
      of_cert answer (inr (inr (inr told))) =
          absurd (not_failed files unfailed.reads cert answer most_cert_bytes accepted.bytes
          accepted.holds told)

      each : (answer : Printed) → IsOfCheck files name cert view answer → EndsDone answer.status
      each answer (inl told) =
          of_cert answer
          (subst (λ p. IsOfCert files p (sha256 day.bytes) cert view answer)
          (same_day files.before.held name parts told.parts day told.day)
          (subst (λ bytes. IsOfCert files told.parts (sha256 bytes) cert view answer)
          (same_bytes files.before.held name parts told.parts day told.day) told.of_cert))
      each answer (inr told) =
          absurd (not_without files unfailed.reads name answer parts day told)

  pub judged : (name plan : List ℕ) (parts : Parts) → asked words ≡ Some (Judged name plan)
      → HoldsDay files.before.held name parts → HoldsPlan files.before.held plan parts
      → EndsDone ran.status
  judged name plan parts is day kept = status_of_end (Judged name plan) EndsDone is tt each
    where
      broken : (rule : Rule) → first_broken parts kept.plan ≡ Some rule → ⊥
      broken rule first =
          let e : None ≡ Some rule =
          sym (feasible_to parts kept.plan (text_is day.bytes parts day.read) kept.feasible)
          ∙ first in
          cc

      same_plan : (bytes : List ℕ) (other : List (List Stop))
          → IsTextOf files.before.held plan bytes → plan_of parts bytes ≡ Ok other
          → other ≡ kept.plan
      same_plan bytes other source read =
          one_read read (ap (plan_of parts) (source.source kept.bytes kept.holds.told) ∙ kept.read)

      of_plan : (answer : Printed) → IsOfPlanOf parts files plan answer → EndsDone answer.status
      of_plan answer (inl told) = by told.verdict
        where
          by : TellsCost parts told.plan answer ⊎ TellsBrokenRule parts told.plan answer
              → EndsDone answer.status
          by (inl cost) = subst EndsDone (sym cost.ends) tt
          by (inr rule) =
              absurd (broken rule.rule
              (subst (λ p. first_broken parts p ≡ Some rule.rule)
              (same_plan told.bytes told.plan told.source told.read) rule.first))
      of_plan answer (inr (inl told)) =
          absurd (not_both kept.read
          (ap (plan_of parts) (sym (told.source.source kept.bytes kept.holds.told)) ∙ told.read))
      of_plan answer (inr (inr told)) =
          absurd (not_unread files unfailed.reads plan answer kept.bytes kept.holds told)

      each : (answer : Printed) → IsOfJudge files name plan answer → EndsDone answer.status
      each answer (inl told) =
          of_plan answer
          (subst (λ p. IsOfPlanOf p files plan answer)
          (same_day files.before.held name parts told.parts day told.day) told.judged)
      each answer (inr told) =
          absurd (not_without files unfailed.reads name answer parts day told)

  pub made : (count : ℕ) → asked words ≡ Some (Made count) → EndsDone ran.status
  made count is =
      status_of_end (Made count) EndsDone is tt (λ answer told. subst EndsDone (sym told.ends) tt)

  pub tried : (count : ℕ) → asked words ≡ Some (Tried count)
      → EndsPlanned (made_parts count) trial_budget ran.status
  tried count is =
      status_of_end (Tried count) (EndsPlanned (made_parts count) trial_budget) is tt each
    where
      each : (answer : Printed) → IsOfTrial count answer
          → EndsPlanned (made_parts count) trial_budget answer.status
      each answer told =
          subst (λ p. EndsPlanned p trial_budget answer.status)
          (one_read told.day (made_back count (made_parts count)
          (asked_line words (Tried count) is).may.1 refl))
          (told_end told.parts trial_budget
          (outcome_of (last_cost told.parts told.found) told.found.bound) answer.status
          told.told.ends told.closed)
