-- What is answered to a plan is what is answered to the words, where the day was read before.
use Rattle.std.proofs.Common.{ℕ, ◌≤◌, List, Option, Result, Ok, Err, subst, sym, inl, inr, arith}
use Rattle.flow_outside.specs.Counts.{Rose}
use Rattle.flow_outside.specs.Held.{Held, HasName}
use Rattle.flow_outside.specs.Seen.{AreKept, FilesSeen}
use Rattle.flow_types.specs.declared.parts.Parts.{Parts}
use Rattle.flow_types.specs.Limits.{most_text_bytes}
use Rattle.flow_cli.specs.declared.answer.Answer.{Answer}
use Rattle.flow_cli.specs.declared.answer.EarlyEnd.{EarlyEnd}
use Rattle.flow_cli.specs.declared.answer.EarlyEnd.TheVariants.{Answered, OutOfMemory}
use Rattle.flow_cli.specs.Answers.{IfAnswered}
use Rattle.flow_cli.specs.Judging.{IsJudgedPlan, IsNoPlan, IsOfJudge, IsOfPlanOf}
use Rattle.flow_cli.specs.Outside.{Printed, change, printed_by}
use Rattle.flow_cli.specs.Reading.{IsDayOf, IsFailed, IsTooMany}

-- a count that rose since some later moment rose since before it
pub rose_since : (before mid now : ℕ) → before ≤ mid → Rose mid now → Rose before now
rose_since before mid now later rose few = let after = rose few in omega arith

-- What holds of the files of a moment holds of those of an earlier one, from which on they were
-- kept.
module _ (before mid now : FilesSeen) (kept : AreKept before mid) (parts : Parts)
    (plan : List ℕ) where
  pub failed_since : (answer : Printed) → IsFailed (change mid now) plan answer
      → IsFailed (change before now) plan answer
  failed_since answer fault =
      record {
        ends = fault.ends;
        failed = λ has. rose_since before.faults mid.faults now.faults kept.faults
            (fault.failed (subst (λ (held : Option Held). HasName held plan) (sym kept.held) has));
        text = fault.text;
        no_record = fault.no_record;
      }

  since : (answer : Printed) → IsOfPlanOf parts (change mid now) plan answer
      → IsOfPlanOf parts (change before now) plan answer
  since answer (inl judged) =
      inl (subst (λ (held : Option Held). IsJudgedPlan held parts plan answer) kept.held judged)
  since answer (inr (inl none)) =
      inr (inl (subst (λ (held : Option Held). IsNoPlan held parts plan answer) kept.held none))
  since answer (inr (inr (inl many))) =
      inr (inr (inl (subst (λ (held : Option Held). IsTooMany most_text_bytes held plan answer)
      kept.held many)))
  since answer (inr (inr (inr fault))) = inr (inr (inr (failed_since answer fault)))

  module _ (name : List ℕ) (day : IsDayOf before.held name parts) where
    told : (answer : Printed) → IsOfPlanOf parts (change mid now) plan answer
        → IsOfJudge (change before now) name plan answer
    told answer judged = inl (record { parts = parts; day = day; judged = since answer judged })

    pub answered : (result : Result Answer EarlyEnd)
        → IfAnswered result (IsOfPlanOf parts (change mid now) plan)
        → IfAnswered result (IsOfJudge (change before now) name plan)
    answered (Ok answer) judged = told (printed_by answer) judged
    answered (Err (Answered answer)) judged = told (printed_by answer) judged
    answered (Err OutOfMemory) judged = tt
