-- What a record of each kind keeps of a draft holds of the whole text's draft.
use Rattle.std.proofs.Common.{◌≡◌, ℕ, ◌+◌, List, [], ◌∷◌, Option, Some, None, Result, Ok, Err, subst}
use Rattle.flow_types.specs.declared.parts.Parts.{Parts}
use Rattle.text_records.specs.Errors.{in_record}
use Rattle.text_records.specs.Fields.{field_in}
use Rattle.text_records.specs.Rows.{Fields, rows_of}
use Rattle.text_records.specs.declared.error.FieldFault.{FieldFault}
use Rattle.text_records.proofs.StepFacts.{bound, ok_is}
use Rattle.scenario_reader.specs.DraftParts.{DraftParts}
use Rattle.scenario_reader.specs.Finish.{finished}
use Rattle.scenario_reader.specs.Kinds.{kind_of}
use Rattle.scenario_reader.specs.Reading.{airport_step, cap_step, connect_step, cost_step, first_step, flight_step, leg_step, record_step, records_step, scenario_from, scenario_of, sector_step, step_of, table_step}
use Rattle.scenario_reader.specs.declared.kind.Kind.{Kind}
use Rattle.scenario_reader.specs.declared.kind.Kind.TheVariants as kind

-- after the step, what held before it
abbrev pub Keeps : (DraftParts → Type 0)
    → (DraftParts → Fields → Result DraftParts FieldFault) → Type 0
Keeps P step = (draft next : DraftParts) (fields : Fields) → P draft
    → step draft fields ≡ Ok next → P next

-- it holds of a day alone, and each kind of record keeps it
pub record IsKept (P : DraftParts → Type 0) : Type 0 where
  pub first : (fields : Fields) (draft : DraftParts) → first_step fields ≡ Ok draft → P draft
  pub airport : Keeps P airport_step
  pub sector : Keeps P sector_step
  pub flight : (at : ℕ) → Keeps P (λ draft. flight_step draft at)
  pub leg : Keeps P leg_step
  pub connect : Keeps P connect_step
  pub table : Keeps P table_step
  pub cost : Keeps P cost_step
  pub cap : Keeps P cap_step

in_record_ok : (at : ℕ) (read : Result DraftParts FieldFault) (next : DraftParts)
    → in_record at read ≡ Ok next → read ≡ Ok next
in_record_ok at (Ok x) next e = cc
in_record_ok at (Err fault) next e = absurd cc

module _ (P : DraftParts → Type 0) (kept : IsKept P) where
  after_kind : (draft next : DraftParts) (at : ℕ) (fields : Fields) (of_kind : Option Kind)
      → P draft → step_of draft at fields of_kind ≡ Ok next → P next
  after_kind draft next at fields None so e = absurd cc
  after_kind draft next at fields (Some kind.Day) so e = absurd cc
  after_kind draft next at fields (Some kind.Airport) so e = kept.airport draft next fields so e
  after_kind draft next at fields (Some kind.Sector) so e = kept.sector draft next fields so e
  after_kind draft next at fields (Some kind.Flight) so e = kept.flight at draft next fields so e
  after_kind draft next at fields (Some kind.Leg) so e = kept.leg draft next fields so e
  after_kind draft next at fields (Some kind.Connect) so e = kept.connect draft next fields so e
  after_kind draft next at fields (Some kind.Table) so e = kept.table draft next fields so e
  after_kind draft next at fields (Some kind.Cost) so e = kept.cost draft next fields so e
  after_kind draft next at fields (Some kind.Cap) so e = kept.cap draft next fields so e
  after_kind draft next at fields (Some kind.Note) so e = subst P (ok_is draft next e) so

  after_record : (draft next : DraftParts) (at : ℕ) (fields : Fields) → P draft
      → record_step draft at fields ≡ Ok next → P next
  unfolding record_step
  after_record draft next at fields so e =
      let word = bound (field_in fields 1) _ next e in
      after_kind draft next at fields (kind_of word.0) so word.2

  after_records : (at : ℕ) (draft last : DraftParts) (rows : List Fields) → P draft
      → records_step at draft rows ≡ Ok last → P last
  unfolding records_step
  after_records at draft last [] so e = subst P (ok_is draft last e) so
  after_records at draft last (fields ∷ rows) so e =
      let next = bound (in_record at (record_step draft at fields)) _ last e in
      let step = in_record_ok at (record_step draft at fields) next.0 next.1 in
      after_records (at + 1) next.0 last rows (after_record draft next.0 at fields so step) next.2

  of_rows : (rows : List Fields) (parts : Parts) → scenario_from rows ≡ Ok parts
      → (draft : DraftParts) × P draft × (finished draft ≡ Ok parts)
  unfolding scenario_from
  of_rows [] parts e = absurd cc
  of_rows (fields ∷ rows) parts e =
      let first = bound (in_record 1 (first_step fields)) _ parts e in
      let last = bound (records_step 2 first.0 rows) _ parts first.2 in
      let step = in_record_ok 1 (first_step fields) first.0 first.1 in
      let begins = kept.first fields first.0 step in
      (last.0, after_records 2 first.0 last.0 rows begins last.1, last.2)

  -- a scenario's text has such a draft
  pub draft_of : (bytes : List ℕ) (parts : Parts) → scenario_of bytes ≡ Ok parts
      → (draft : DraftParts) × P draft × (finished draft ≡ Ok parts)
  draft_of bytes parts e = of_rows (rows_of bytes) parts e
