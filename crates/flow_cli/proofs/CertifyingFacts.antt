-- What is answered where a certificate is stored, when the day was read before.
use Rattle.std.proofs.Common.{◌≡◌, ◌∙◌, ℕ, ◌+◌, ◌-◌, ◌*◌, ◌^◌, ◌<◌, ◌≤◌, min, List, [], ◌∷◌, length, Option, None, Some, Result, Ok, Err, sym, ap, subst, inl, inr, false, refl, arith, cond, IsSome}
use Rattle.std.specs.Prelude.{◌≢◌, ◌↔◌}
use Rattle.std.proofs.Math.Nat.{mul-le-mul}
use Rattle.std.specs.Ordering.{eq_by_cmp, nat_cmp}
use Rattle.std.specs.Cmp.Lexicographic.{nat_list_cmp_total, slice_cmp}
use Rattle.std.specs.FinMap.{get, get-insert}
use Rattle.std.proofs.lemmas.Map.Text.{is_eq-slice_cmp}
use Rattle.flow_outside.specs.Counts.{Rose}
use Rattle.flow_outside.specs.Held.{Held, KeepsOthers, bytes_told, stored}
use Rattle.flow_outside.specs.Seen.{AreKept, FilesSeen}
use Rattle.flow_types.specs.declared.parts.Parts.{Parts}
use Rattle.tree_search.specs.declared.found.Budget.{Budget}
use Rattle.flow_types.specs.Valid.{IsScenario}
use Rattle.time_windows.specs.Boxes.{root_box}
use Rattle.time_windows.proofs.MadeFacts.{root_inside}
use Rattle.bytime_model.specs.AllRows.{rows_of}
use Rattle.bytime_model.proofs.KindLaws.{rows_few}
use Rattle.certificate.specs.Limits.{most_cert_bytes}
use Rattle.certificate.specs.Texts.{cert_text}
use Rattle.flow_cli.specs.Own.{certified, most_bytes_of}
use Rattle.flow_cli.proofs.OwnFacts.{own_short}
use Rattle.tree_search.specs.Records.{IsSearchRecord}
use Rattle.tree_search.specs.declared.found.Found.{Found}
use Rattle.flow_cli.specs.declared.answer.Answer.{Answer}
use Rattle.flow_cli.specs.declared.answer.EarlyEnd.{EarlyEnd}
use Rattle.flow_cli.specs.declared.answer.EarlyEnd.TheVariants.{Answered, OutOfMemory}
use Rattle.certificate.proofs.BackFacts.{apart_bytes}
use Rattle.flow_cli.specs.Answers.{IfAnswered, OnEarlyEnd}
use Rattle.flow_cli.specs.Certifying.{AreOthersKept, IsAfterStore, IsCertifiedDay, IsOfCertified, IsOfDay, IsOfText, IsTooLongDay}
use Rattle.flow_cli.specs.declared.status.Status.TheVariants.{TooLong}
use Rattle.flow_cli.specs.Faults.{too_long_text}
use Rattle.flow_cli.specs.Outside.{Printed, change, printed_by}
use Rattle.flow_cli.specs.Reading.{IsSignedDay, IsWithoutDay}
use Rattle.command_words.specs.Words.{IsNodeCount}

-- another name has what it had
other_told : (held : Option Held) (name bytes other : List ℕ) → other ≢ name
    → bytes_told (stored held name bytes) other ≡ bytes_told held other
other_told None name bytes other apart = refl
other_told (Some held) name bytes other apart =
    let not_it : eq_by_cmp (slice_cmp nat_cmp) other name ≡ false =
    is_eq-slice_cmp other name ∙ apart_bytes other name apart in
    get-insert nat_list_cmp_total held name bytes other
    ∙ ap (λ b. cond b (Some bytes) (get held other)) not_it

pub stored_keeps : (held : Option Held) (name bytes : List ℕ)
    → KeepsOthers held (stored held name bytes) name
stored_keeps held name bytes = record {
  told = told held;
  others = other_told held name bytes;
}
  where
    told : (held : Option Held) → IsSome (stored held name bytes) ↔ IsSome held
    told None = (λ some. some, λ some. some)
    told (Some held) = (λ some. refl, λ some. refl)

pub same_keeps : (held : Option Held) (name : List ℕ) → KeepsOthers held held name
same_keeps held name = record {
  told = (λ some. some, λ some. some);
  others = λ other apart. refl;
}

pub kept_others : (before now : FilesSeen) (name : List ℕ) → AreKept before now
    → AreOthersKept before now name
kept_others before now name kept =
    let same = kept.store_faults in
    record {
      others = subst (λ held. KeepsOthers before.held held name) (sym kept.held)
          (same_keeps before.held name);
      faults = kept.faults;
      store_faults = omega (arith, same);
    }

pub kept_stored : (before now : FilesSeen) (name bytes : List ℕ)
    → now.held ≡ stored before.held name bytes → now.faults ≡ before.faults
    → before.store_faults ≤ now.store_faults → AreOthersKept before now name
kept_stored before now name bytes held faults counts = record {
  others = subst (λ h. KeepsOthers before.held h name) (sym held)
      (stored_keeps before.held name bytes);
  faults = omega (arith, faults);
  store_faults = counts;
}

-- What holds of the files since the day was read holds of them since before.
module _ (before mid now : FilesSeen) (kept : AreKept before mid) (parts : Parts)
    (name cert digest : List ℕ) (budget : Budget)
    (day : IsSignedDay before.held name parts digest) where
  of_day : (answer : Printed) (files : FilesSeen)
      → IsOfDay (change before files) parts digest cert budget answer
      → IsOfCertified (change before files) name cert budget answer
  of_day answer files is = inl (record {
    parts = parts;
    day = day.day;
    of_day = subst (λ d. IsOfDay (change before files) parts d cert budget answer) day.signed is;
  })

  after : (bytes : List ℕ) (told answer : Printed)
      → IsCertifiedDay parts digest budget bytes told
      → IsAfterStore (change mid now) cert bytes told answer
      → IsOfCertified (change before now) name cert budget answer
  after bytes told answer made (inl (is, stored_is)) =
      of_day answer now (inl (record {
        bytes = bytes;
        certified = subst (IsCertifiedDay parts digest budget bytes) (sym is) made;
        stored = record {
          held = stored_is.held ∙ ap (λ held. stored held cert bytes) kept.held;
          store_faults = stored_is.store_faults ∙ kept.store_faults;
        };
      }))
  after bytes told answer made (inr failed) =
      of_day answer now (inr (inl (record {
        bytes = bytes;
        told = told;
        certified = made;
        unstored = record {
          ends = failed.ends;
          text = failed.text;
          no_record = failed.no_record;
          others = subst (λ held. KeepsOthers held now.held cert) kept.held failed.others;
          failed = subst (λ n. Rose n now.store_faults) kept.store_faults failed.failed;
        };
      })))

  pub answered : (bytes : List ℕ) (told : Printed)
      → IsCertifiedDay parts digest budget bytes told → (result : Result Answer EarlyEnd)
      → IfAnswered result (IsAfterStore (change mid now) cert bytes told)
      → IfAnswered result (IsOfCertified (change before now) name cert budget)
  answered bytes told made (Ok answer) is = after bytes told (printed_by answer) made is
  answered bytes told made (Err (Answered answer)) is =
      after bytes told (printed_by answer) made is
  answered bytes told made (Err OutOfMemory) is = tt

  -- nothing was stored
  pub long_answered : (early : EarlyEnd)
      → OnEarlyEnd early (IsTooLongDay parts digest budget)
      → OnEarlyEnd early (IsOfCertified (change before mid) name cert budget)
  long_answered (Answered answer) is =
      of_day (printed_by answer) mid (inr (inr (record { long = is; kept = kept })))
  long_answered OutOfMemory is = tt

pub without_answered : (before mid : FilesSeen) (name cert : List ℕ) (budget : Budget)
    → AreKept before mid → (early : EarlyEnd)
    → OnEarlyEnd early (IsWithoutDay (change before mid) name)
    → OnEarlyEnd early (IsOfCertified (change before mid) name cert budget)
without_answered before mid name cert budget kept (Answered answer) is =
    inr (record { without = is; kept = kept })
without_answered before mid name cert budget kept OutOfMemory is = tt

-- how long the certificate of a record is
module _ (parts : Parts) (valid : IsScenario parts) (budget : Budget) (found : Found)
    (digest : List ℕ) (of_text : IsOfText digest) (count : IsNodeCount budget.nodes)
    (searched : IsSearchRecord parts (root_box parts) budget found) where
  bytes_few : length (cert_text parts (certified digest found)) ≤ most_bytes_of parts budget.nodes
  bytes_few =
      let nodes = count.1 in
      subst (λ d. length (cert_text parts (certified d found)) ≤ most_bytes_of parts budget.nodes)
      (sym of_text.is)
      (own_short parts (root_box parts) budget found of_text.bytes valid
      (root_inside parts (root_box parts) (λ f n. refl)) (omega (arith, nodes)) searched)

  most_few : most_bytes_of parts budget.nodes < 2 ^ 62
  most_few =
      let rows = rows_few parts valid in
      let each : 48 * (length (rows_of parts) + 10001) ≤ 1680480048 = omega (arith, rows) in
      let all : budget.nodes * (48 * (length (rows_of parts) + 10001)) ≤ 200000 * 1680480048 =
      mul-le-mul count.1 each in
      omega (arith, all)

  pub short_day : (size : ℕ)
      → size ≡ min (length (cert_text parts (certified digest found))) (2 ^ 64 - 1)
      → size ≤ most_cert_bytes
      → length (cert_text parts (certified digest found)) ≤ most_cert_bytes
  short_day size is few =
      let bytes = bytes_few in let most = most_few in omega (arith, is, few, bytes, most)

  pub long_day : (size : ℕ) (answer : Printed)
      → size ≡ min (length (cert_text parts (certified digest found))) (2 ^ 64 - 1)
      → most_cert_bytes < size
      → answer ≡ record { text = too_long_text size; status = TooLong; records = found ∷ [] }
      → IsTooLongDay parts digest budget answer
  long_day size answer is above told =
      let few = bytes_few in
      let most = most_few in
      let whole : size ≡ length (cert_text parts (certified digest found)) =
      omega (arith, is, few, most) in
      record {
        found = found;
        records = ap (λ (a : Printed). a.records) told;
        searched = searched;
        ends = ap (λ (a : Printed). a.status) told;
        above = omega (arith, above, whole);
        text = ap (λ (a : Printed). a.text) told ∙ ap too_long_text whole;
        only = omega (arith, above, whole, few);
      }
