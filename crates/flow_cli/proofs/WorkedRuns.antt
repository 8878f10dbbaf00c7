-- Whole runs, from the words and the files to the bytes that are written, of any texts that say
-- what is said of them here.
use Rattle.std.specs.Prelude.{codes}
use Rattle.std.proofs.Common.{◌≡◌, ℕ, ◌+◌, ◌<◌, ◌≤◌, List, [], ◌∷◌, length, Some, Ok, Err, IsSome, refl, sym, subst, ◌∙◌, inl, inr, arith}
use Rattle.std.specs.Cmp.Lexicographic.{nat_list_cmp_total}
use Rattle.std.specs.FinMap.{from_entries, get, get-from_entries}
use Rattle.std.specs.Fmt.{digits}
use Rattle.std.proofs.lemmas.Bool.{false≢true}
use Rattle.flow_outside.specs.Counts.{Rose}
use Rattle.flow_outside.specs.Held.{Held}
use Rattle.flow_outside.specs.Seen.{FilesSeen, SinkSeen}
use Rattle.flow_types.specs.declared.fault.Fault.{Fault}
use Rattle.flow_types.specs.declared.fault.Cause.TheVariants.{BackLeg}
use Rattle.flow_types.specs.declared.place.CapKind.TheVariants.{Dep}
use Rattle.flow_types.specs.Limits.{most_text_bytes}
use Rattle.flow_types.specs.declared.parts.Parts.{Parts}
use Rattle.plan_rules.proofs.FirstRules.{first_rule}
use Rattle.plan_rules.specs.FirstBroken.{first_broken, over}
use Rattle.plan_text.specs.Plans.{plan_of}
use Rattle.scenario_reader.proofs.ValidTexts.{text_is}
use Rattle.scenario_reader.specs.Reading.{scenario_of}
use Rattle.flow_cli.specs.declared.answer.Ran.{Ran}
use Rattle.flow_cli.specs.declared.status.Status.{Status}
use Rattle.flow_cli.specs.declared.status.Status.TheVariants.{BadPlan, BadScenario, Broken, Done, ReadFault, Usage}
use Rattle.flow_cli.specs.Answer.{Ends, IsAnswer}
use Rattle.flow_cli.specs.Complete.{EndsDone, HoldsDay, HoldsPlan, NothingFailed}
use Rattle.flow_cli.specs.Faults.{fault_text, too_long_text}
use Rattle.flow_cli.specs.Judging.{IsVerdict}
use Rattle.flow_cli.specs.Outside.{Change, change}
use Rattle.flow_cli.specs.Reading.{IsDayOf, IsNoDay, IsTextOf}
use Rattle.command_words.specs.Words.{asked}
use Rattle.flow_cli.specs.Words.{usage_text}
use Rattle.worked_days.specs.Days.{two_flights}
use Rattle.flow_cli.proofs.CompleteFacts.{judged as judge_ends}
use Rattle.flow_cli.proofs.WorkedCases.{keeps, on_time}

one_value : {A : Type 0} {x y : A} → Some x ≡ Some y → x ≡ y
one_value is = cc

-- what is held under a name is its text
text_held : (held : Held) (name text : List ℕ) → get held name ≡ Some text
    → length text ≤ most_text_bytes → IsTextOf (Some held) name text
text_held held name text holds few = record {
  present = subst IsSome (sym holds) refl;
  source = λ told is. one_value (sym holds ∙ is);
  within = few;
}

-- files that stay as they were
abbrev unchanged : Held → Change FilesSeen
unchanged held =
    let files : FilesSeen = record { held = Some held; faults = 0; store_faults = 0 } in
    change files files

-- an output that was empty, and to which this text was written
abbrev wrote : List ℕ → Change SinkSeen
wrote text =
    let empty : SinkSeen = record { written = Some []; faults = 0 } in
    change empty (record { written = Some text; faults = 0 })

-- no count rose
nothing_failed : (held : Held) (text : List ℕ) → NothingFailed (unchanged held) (wrote text)
nothing_failed held text = record { reads = none; stores = none; writes = none }
  where
    none : Rose 0 0 → ⊥
    none rose = let more : 0 < 0 = rose (omega arith) in omega (arith, more)

-- a run on these files prints this text, and ends with this status
abbrev EndsOn : Held → List (List ℕ) → List ℕ → Status → Type 0
EndsOn held words text status =
    Ends (unchanged held) (wrote text) words (record { status = status; records = [] })

-- a run with this answer
run_answers : (held : Held) (words : List (List ℕ)) (text : List ℕ) (status : Status)
    → IsAnswer (unchanged held) (asked words)
    (record { text = text; status = status; records = [] })
    → EndsOn held words text status
run_answers held words text status of_words = inl (record {
  answer = record { text = text; status = status; records = [] };
  of_words = of_words;
  quiet = λ other. refl;
  ends = refl;
  records = refl;
  whole = refl;
  unfailed = refl;
})

abbrev day_name : List ℕ
day_name = codes "day.csv"

abbrev plan_name : List ℕ
plan_name = codes "plan.csv"

abbrev plan_words : List (List ℕ)
plan_words = codes "plan" ∷ day_name ∷ []

abbrev judge_words : List (List ℕ)
judge_words = codes "judge" ∷ day_name ∷ plan_name ∷ []

module _ (text plan : List ℕ) (few : length text ≤ most_text_bytes)
    (few_of_plan : length plan ≤ most_text_bytes) where
  abbrev files : Held
  files = from_entries ((day_name, text) ∷ (plan_name, plan) ∷ [])

  day_text : IsTextOf (Some files) day_name text
  day_text = text_held files day_name text
      (get-from_entries nat_list_cmp_total ((day_name, text) ∷ (plan_name, plan) ∷ []) day_name) few

  plan_text : IsTextOf (Some files) plan_name plan
  plan_text = text_held files plan_name plan
      (get-from_entries nat_list_cmp_total ((day_name, text) ∷ (plan_name, plan) ∷ []) plan_name)
      few_of_plan

  -- the day of the text, where it reads
  day_held : (parts : Parts) → scenario_of text ≡ Ok parts → IsDayOf (Some files) day_name parts
  day_held parts read =
      record { bytes = text; text = day_text; read = read; valid = text_is text parts read }

  -- a text that is no scenario is refused by its first fault, by both commands
  abbrev fault : Fault
  fault = record { at = 11; field = 4; cause = BackLeg }

  fault_is_printed : fault_text fault ≡ codes "refused,11,4,BackLeg\n"
  unfolding digits
  fault_is_printed = refl

  no_day : scenario_of text ≡ Err fault
      → IsNoDay (Some files) day_name
      (record { text = codes "refused,11,4,BackLeg\n"; status = BadScenario; records = [] })
  no_day read = record {
    bytes = text;
    source = day_text;
    refused = record {
      fault = fault;
      read = read;
      ends = refl;
      text = sym fault_is_printed;
      no_record = refl;
    };
  }

  plan_is_refused : scenario_of text ≡ Err fault
      → EndsOn files plan_words (codes "refused,11,4,BackLeg\n") BadScenario
  plan_is_refused read =
      run_answers files plan_words (codes "refused,11,4,BackLeg\n") BadScenario
      (inr (inl (no_day read)))

  judge_is_refused : scenario_of text ≡ Err fault
      → EndsOn files judge_words (codes "refused,11,4,BackLeg\n") BadScenario
  judge_is_refused read =
      run_answers files judge_words (codes "refused,11,4,BackLeg\n") BadScenario
      (inr (inl (no_day read)))

  -- a plan that keeps every rule, and the same plan where one may leave in a period
  module _ (leave : ℕ) (read : scenario_of text ≡ Ok (two_flights leave 9 9)) where
    judged : (printed : List ℕ) (status : Status)
        → plan_of (two_flights leave 9 9) plan ≡ Ok on_time
        → IsVerdict (two_flights leave 9 9) on_time
        (record { text = printed; status = status; records = [] })
        → EndsOn files judge_words printed status
    judged printed status plan_read verdict =
        run_answers files judge_words printed status
        (inl (record {
          parts = two_flights leave 9 9;
          day = day_held (two_flights leave 9 9) read;
          judged = inl (record {
            bytes = plan;
            source = plan_text;
            plan = on_time;
            read = plan_read;
            verdict = verdict;
          });
        }))

  run_is_kept : scenario_of text ≡ Ok (two_flights 2 9 9)
      → plan_of (two_flights 2 9 9) plan ≡ Ok on_time
      → EndsOn files judge_words (codes "keeps,0\n") Done
  unfolding digits
  run_is_kept read plan_read =
      judged 2 read (codes "keeps,0\n") Done plan_read
      (inl (record { feasible = keeps; ends = refl; text = refl; no_record = refl }))

  -- So it ends whatever is printed, unless there is no memory: all that the law asks for is there.
  day_is_held : (parts : Parts) → scenario_of text ≡ Ok parts
      → HoldsDay (Some files) day_name parts
  day_is_held parts read = record {
    bytes = text;
    holds = record {
      told =
          get-from_entries nat_list_cmp_total ((day_name, text) ∷ (plan_name, plan) ∷ []) day_name;
      within = few;
    };
    read = read;
  }

  plan_is_held : plan_of (two_flights 2 9 9) plan ≡ Ok on_time
      → HoldsPlan (Some files) plan_name (two_flights 2 9 9)
  plan_is_held read = record {
    bytes = plan;
    holds = record {
      told =
          get-from_entries nat_list_cmp_total ((day_name, text) ∷ (plan_name, plan) ∷ []) plan_name;
      within = few_of_plan;
    };
    plan = on_time;
    read = read;
    feasible = keeps;
  }

  judge_is_done : scenario_of text ≡ Ok (two_flights 2 9 9)
      → plan_of (two_flights 2 9 9) plan ≡ Ok on_time → (written : List ℕ) (ran : Ran)
      → Ends (unchanged files) (wrote written) judge_words ran → EndsDone ran.status
  judge_is_done read plan_read written ran ends =
      judge_ends (unchanged files) (wrote written) judge_words ran ends
      (nothing_failed files written) day_name plan_name (two_flights 2 9 9) refl
      (day_is_held (two_flights 2 9 9) read) (plan_is_held plan_read)

  first_is_departures : first_broken (two_flights 1 9 9) on_time ≡ Some (over Dep 0 0 2 1)
  first_is_departures = refl

  run_is_broken : scenario_of text ≡ Ok (two_flights 1 9 9)
      → plan_of (two_flights 1 9 9) plan ≡ Ok on_time
      → EndsOn files judge_words (codes "broken,departures,ORIG,0,2,1\n") Broken
  unfolding digits
  run_is_broken read plan_read =
      judged 1 read (codes "broken,departures,ORIG,0,2,1\n") Broken plan_read (inr (record {
        rule = over Dep 0 0 2 1;
        first = first_is_departures;
        broken = first_rule (two_flights 1 9 9) on_time (over Dep 0 0 2 1) first_is_departures;
        ends = refl;
        text = refl;
        no_record = refl;
      }))

  -- a text that is no plan of the day
  no_plan_of : scenario_of text ≡ Ok (two_flights 1 9 9)
      → plan_of (two_flights 1 9 9) plan ≡ Err fault
      → EndsOn files judge_words (codes "refused,11,4,BackLeg\n") BadPlan
  no_plan_of read plan_read =
      run_answers files judge_words (codes "refused,11,4,BackLeg\n") BadPlan
      (inl (record {
        parts = two_flights 1 9 9;
        day = day_held (two_flights 1 9 9) read;
        judged = inr (inl (record {
          bytes = plan;
          source = plan_text;
          fault = fault;
          read = plan_read;
          ends = refl;
          text = sym fault_is_printed;
          no_record = refl;
        }));
      }))

-- Where the name isn't there, and where the words make no command.
abbrev no_files : Held
no_files = from_entries []

run_is_fault : EndsOn no_files plan_words (codes "fault,read\n") ReadFault
run_is_fault =
    run_answers no_files plan_words (codes "fault,read\n") ReadFault
    (inr (inr
    (inr (record {
      ends = refl;
      failed = λ has. absurd
          (false≢true (subst IsSome (get-from_entries nat_list_cmp_total [] day_name) has));
      text = refl;
      no_record = refl;
    }))))

run_is_usage : EndsOn no_files (codes "plan" ∷ []) usage_text Usage
run_is_usage =
    run_answers no_files (codes "plan" ∷ []) usage_text Usage
    (record { ends = refl; text = refl; no_record = refl })

-- A text of a byte too many is refused by its size.
size_is_printed : too_long_text (most_text_bytes + 1) ≡ codes "refused,toolong,67108865\n"
unfolding digits
size_is_printed = refl
