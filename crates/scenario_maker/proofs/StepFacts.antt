-- Records that are read one after the other, and what each field is read as.
use Rattle.std.proofs.Common.{◌≡◌, ℕ, ◌+◌, ◌-◌, ◌^◌, ◌<◌, ◌≤◌, true, List, [], ◌∷◌, ◌++◌, length, Some, None, Ok, slice_get, refl, ap, subst, ◌∙◌, arith, append_assoc, length-append}
use Rattle.std.specs.Fmt.{decimal}
use Rattle.std.proofs.lemmas.Bool.{le-leb, lt-leb}
use Rattle.std.proofs.lemmas.Option.{slice_get-get_or}
use Rattle.std.proofs.Math.Seq.{get_or-append_seam}
use Rattle.flow_types.specs.Words.{is_name}
use Rattle.text_records.specs.Fields.{number_in}
use Rattle.text_records.specs.Names.{known_in, new_name, position_of}
use Rattle.text_records.specs.Rows.{Fields}
use Rattle.plan_text.proofs.ReadBack.{name_back, number_back}
use Rattle.scenario_reader.specs.DraftParts.{DraftParts}
use Rattle.scenario_reader.specs.Reading.{record_step, records_step}

-- whatever follows them, the records lead from one draft to the other
abbrev pub Leads : ℕ → DraftParts → List Fields → DraftParts → Type 0
Leads at draft rows next =
    (rest : List Fields)
    → records_step at draft (rows ++ rest) ≡ records_step (at + length rows) next rest

pub leads_none : (at : ℕ) (draft : DraftParts) → Leads at draft [] draft
leads_none at draft rest =
    let same : at ≡ at + 0 = omega arith in
    ap (λ (n : ℕ). records_step n draft rest) same

pub leads_one : (at : ℕ) (draft next : DraftParts) (row : Fields)
    → record_step draft at row ≡ Ok next → Leads at draft (row ∷ []) next
unfolding records_step
leads_one at draft next row read rest = rw read refl

pub leads_both : (at : ℕ) (draft middle next : DraftParts) (first second : List Fields)
    → Leads at draft first middle → Leads (at + length first) middle second next
    → Leads at draft (first ++ second) next
leads_both at draft middle next first second one two rest =
    let count : at + length first + length second ≡ at + length (first ++ second) =
    omega (arith, length-append first second) in
    ap (records_step at draft) (append_assoc first second rest) ∙ one (second ++ rest) ∙ two rest
    ∙ ap (λ (n : ℕ). records_step n next rest) count

pub leads_more : (at : ℕ) (draft middle next : DraftParts) (row : Fields) (rows : List Fields)
    → record_step draft at row ≡ Ok middle → Leads (at + 1) middle rows next
    → Leads at draft (row ∷ rows) next
leads_more at draft middle next row rows read more =
    leads_both at draft middle next (row ∷ []) rows (leads_one at draft middle row read) more

-- another draft that is the same
pub leads_same : (at : ℕ) (draft next other : DraftParts) (rows : List Fields) → next ≡ other
    → Leads at draft rows next → Leads at draft rows other
leads_same at draft next other rows same leads = subst (Leads at draft rows) same leads

-- what stands behind a front
pub seam : {X : Type 0} (front : List X) (x : X) (rest : List X)
    → slice_get (front ++ x ∷ rest) (length front) ≡ Some x
seam front x rest =
    slice_get-get_or (front ++ x ∷ rest) (length front) x
    (omega (arith, length-append front (x ∷ rest)))
    ∙ ap Some (get_or-append_seam front x rest x)

module _ (fields : Fields) (number : ℕ) where
  pub number_between : (n low high : ℕ) → slice_get fields (number - 1) ≡ Some (decimal n)
      → n < 10 ^ 18 → low ≤ n → n ≤ high → number_in fields number low high ≡ Ok n
  unfolding number_in
  number_between n low high there few from to =
      rw (there, number_back n few, le-leb low n from, le-leb n high to) refl

  pub known_back : (names : List (List ℕ)) (name : List ℕ) (k : ℕ)
      → slice_get fields (number - 1) ≡ Some name → is_name name ≡ true
      → position_of name names ≡ Some k → known_in number names fields ≡ Ok k
  unfolding known_in
  known_back names name k there named known =
      rw (name_back fields number name there named, known) refl

pub new_back : (fields : Fields) (limit : ℕ) (names : List (List ℕ)) (name : List ℕ)
    → slice_get fields 1 ≡ Some name → is_name name ≡ true → position_of name names ≡ None
    → length names < limit → new_name limit names fields ≡ Ok name
unfolding new_name
new_back fields limit names name there named fresh room =
    rw (name_back fields 2 name there named, fresh, lt-leb limit (length names) room) refl
