-- The changes of capacities are read so that each place has its own.
use Rattle.std.specs.Prelude.{codes, replicate, if◌then◌else◌}
use Rattle.std.proofs.Common.{◌≡◌, ℕ, ◌+◌, ◌-◌, ◌==◌, ◌<◌, ◌≤◌, Bool, true, false, List, [], ◌∷◌, ◌++◌, map, length, set, Some, Ok, All, slice_get, refl, sym, ap, subst, ◌∙◌, arith, append_assoc, length-append}
use Rattle.std.proofs.Math.Seq.{set-append_seam}
use Rattle.std.proofs.lemmas.Bool.{eqb-true, le-ltb}
use Rattle.std.proofs.lemmas.List.{map-append}
use Rattle.flow_types.specs.Capacities.{has_kind}
use Rattle.flow_types.specs.Limits.{most_capacity}
use Rattle.flow_types.specs.Lists.{filled}
use Rattle.flow_types.specs.Valid.{IsPlace, IsScenario, arrival_count}
use Rattle.flow_types.specs.Words.{is_name}
use Rattle.flow_types.specs.declared.parts.Parts.{Parts}
use Rattle.flow_types.specs.declared.place.CapKind.{CapKind}
use Rattle.flow_types.specs.declared.place.CapKind.TheVariants as cap
use Rattle.flow_types.specs.declared.place.Place.{Place}
use Rattle.flow_types.specs.declared.place.PlaceKind.{PlaceKind}
use Rattle.flow_types.specs.declared.place.PlaceKind.TheVariants.{Airport, Sector}
use Rattle.plan_text.proofs.ReadBack.{named_at}
use Rattle.text_records.specs.Names.{position_of}
use Rattle.scenario_reader.specs.Capacities.{cap_change_of, cap_kind_of, last_in, place_in, with_change}
use Rattle.scenario_reader.specs.Change.{changed_at}
use Rattle.scenario_reader.specs.DraftParts.{DraftParts, place_names}
use Rattle.scenario_reader.specs.Reading.{cap_step, record_step, with_cap_change}
use Rattle.scenario_reader.specs.declared.capacities.CapChange.{CapChange}
use Rattle.scenario_maker.specs.Writing.{cap_row, cap_rows, change_rows, change_rows_of, first_of}
use Rattle.scenario_maker.proofs.PlaceFacts.{flat, names_flat, with_places}
use Rattle.scenario_maker.proofs.PlainFacts.{found_holds, first_holds, others_hold}
use Rattle.scenario_maker.proofs.StepFacts.{Leads, known_back, leads_both, leads_more, leads_none, leads_same, number_between, seam}

abbrev cap_word : CapKind → List ℕ
cap_word cap.Dep = codes "dep"
cap_word cap.Arr = codes "arr"
cap_word cap.Sector = codes "sector"

kind_back : (kind : CapKind) → cap_kind_of (cap_word kind) ≡ Some kind
kind_back cap.Dep = refl
kind_back cap.Arr = refl
kind_back cap.Sector = refl

-- a capacity in one period
abbrev change_to : CapKind → ℕ → ℕ → ℕ → CapChange
change_to kind place period value =
    record { kind = kind; place = place; first = period; last = period; value = value }

cap_read : (draft : DraftParts) (at : ℕ) (kind : CapKind) (name : List ℕ) (k period value : ℕ)
    → is_name name ≡ true → position_of name (place_names draft.places) ≡ Some k
    → has_kind kind (slice_get draft.places k) ≡ true → period < draft.day.periods
    → draft.day.periods ≤ 512 → value ≤ most_capacity
    → record_step draft at (cap_row (cap_word kind) name period value)
    ≡ Ok (with_cap_change draft (change_to kind k period value))
unfolding record_step cap_step cap_change_of place_in last_in
cap_read draft at kind name k period value named known has within few small =
    let fields = cap_row (cap_word kind) name period value in
    rw (
      kind_back kind,
      known_back fields 3 (place_names draft.places) name k refl named known,
      has,
      number_between fields 4 period 0 (draft.day.periods - 1) refl (omega (arith, within, few))
          (omega arith) (omega (arith, within)),
      number_between fields 5 period 0 (draft.day.periods - 1) refl (omega (arith, within, few))
          (omega arith) (omega (arith, within)),
      le-ltb period period (omega arith),
      number_between fields 6 value 0 most_capacity refl (omega (arith, small)) (omega arith)
          small,
    ) refl

filled_one : (seen : List ℕ) (old : ℕ) (rest : List ℕ) (value : ℕ)
    → filled (length seen) (length seen + 1 - length seen) value (seen ++ old ∷ rest)
    ≡ seen ++ value ∷ rest
filled_one seen old rest value =
    let one : length seen + 1 - length seen ≡ 1 = omega arith in
    let same : length seen + 0 ≡ length seen = omega arith in
    ap (λ (n : ℕ). filled (length seen) n value (seen ++ old ∷ rest)) one
    ∙ ap (λ (n : ℕ). set (seen ++ old ∷ rest) n value) same
    ∙ set-append_seam seen old rest value

-- a change behind a front
pub changed_seam : {X : Type 0} (change : X → X) (front : List X) (x : X) (back : List X)
    → changed_at change (front ++ x ∷ back) (length front) ≡ front ++ change x ∷ back
changed_seam change [] x back = refl
changed_seam {X} change (y ∷ front) x back =
    ap (λ (xs : List X). y ∷ xs) (changed_seam change front x back)

-- the changes of one list of capacities
module _ (periods usual : ℕ) (word name : List ℕ) (put : List ℕ → DraftParts)
    (reads : (at : ℕ) (seen rest : List ℕ) (value : ℕ) → length seen < periods
    → value ≤ most_capacity → record_step (put (seen ++ usual ∷ rest)) at
    (cap_row word name (length seen) value) ≡ Ok (put (seen ++ value ∷ rest))) where
  caps_lead : (at : ℕ) (seen values : List ℕ) → length seen + length values ≡ periods
      → All (λ c. c ≤ most_capacity) values
      → Leads at (put (seen ++ replicate (length values) usual))
      (cap_rows word name usual (length seen) values) (put (seen ++ values))
  caps_lead at seen [] count small = leads_none at (put (seen ++ []))
  caps_lead at seen (value ∷ values) count small =
      let n = length values in
      let less = others_hold (λ (c : ℕ). c ≤ most_capacity) value values small in
      let number : length (seen ++ value ∷ []) ≡ length seen + 1 =
      length-append seen (value ∷ []) in
      let left : length (seen ++ value ∷ []) + n ≡ periods = omega (arith, number, count) in
      let rows = cap_rows word name usual (length seen + 1) values in
      let more : (from : ℕ) → Leads from (put (seen ++ value ∷ replicate n usual)) rows
      (put (seen ++ value ∷ values)) =
      λ from. subst (λ (period : ℕ). Leads from (put (seen ++ value ∷ replicate n usual))
      (cap_rows word name usual period values) (put (seen ++ value ∷ values))) number
      (subst (λ (caps : List ℕ). Leads from (put caps)
      (cap_rows word name usual (length (seen ++ value ∷ [])) values)
      (put (seen ++ value ∷ values))) (append_assoc seen (value ∷ []) (replicate n usual))
      (subst (λ (caps : List ℕ). Leads from (put ((seen ++ value ∷ []) ++ replicate n usual))
      (cap_rows word name usual (length (seen ++ value ∷ [])) values) (put caps))
      (append_assoc seen (value ∷ []) values)
      (caps_lead from (seen ++ value ∷ []) values left less))) in
      by (value == usual) refl more
    where
      by : (same : Bool) → (value == usual) ≡ same
          → ((from : ℕ) → Leads from (put (seen ++ value ∷ replicate (length values) usual))
          (cap_rows word name usual (length seen + 1) values) (put (seen ++ value ∷ values)))
          → Leads at (put (seen ++ usual ∷ replicate (length values) usual))
          (if same then cap_rows word name usual (length seen + 1) values
          else cap_row word name (length seen) value
          ∷ cap_rows word name usual (length seen + 1) values) (put (seen ++ value ∷ values))
      by true is more =
          subst (λ (c : ℕ). Leads at (put (seen ++ c ∷ replicate (length values) usual))
          (cap_rows word name usual (length seen + 1) values) (put (seen ++ value ∷ values)))
          (eqb-true value usual is) (more at)
      by false is more =
          leads_more at (put (seen ++ usual ∷ replicate (length values) usual))
          (put (seen ++ value ∷ replicate (length values) usual)) (put (seen ++ value ∷ values))
          (cap_row word name (length seen) value)
          (cap_rows word name usual (length seen + 1) values)
          (reads at seen (replicate (length values) usual) value (omega (arith, count))
          (first_holds (λ (c : ℕ). c ≤ most_capacity) value values small)) (more (at + 1))

-- the changes of one place, which stands between others
module _ (parts : Parts) (few : parts.day.periods ≤ 512) (front back : List Place) (name : List ℕ)
    (named : is_name name ≡ true)
    (known : position_of name (place_names front ++ name ∷ place_names back)
    ≡ Some (length front)) where
  abbrev place_here : PlaceKind → List ℕ → List ℕ → Place
  place_here kind first second =
      record { name = name; kind = kind; first = first; second = second }

  abbrev here : PlaceKind → List ℕ → List ℕ → DraftParts
  here kind first second = with_places parts (front ++ place_here kind first second ∷ back)

  known_here : (kind : PlaceKind) (first second : List ℕ)
      → position_of name (place_names (front ++ place_here kind first second ∷ back))
      ≡ Some (length front)
  known_here kind first second =
      ap (position_of name)
      (map-append (λ (p : Place). p.name) front (place_here kind first second ∷ back)) ∙ known

  dep_read : (second : List ℕ) (usual at : ℕ) (seen rest : List ℕ) (value : ℕ)
      → length seen < parts.day.periods → value ≤ most_capacity
      → record_step (here Airport (seen ++ usual ∷ rest) second) at
      (cap_row (codes "dep") name (length seen) value)
      ≡ Ok (here Airport (seen ++ value ∷ rest) second)
  dep_read second usual at seen rest value within small =
      let place = place_here Airport (seen ++ usual ∷ rest) second in
      cap_read (here Airport (seen ++ usual ∷ rest) second) at cap.Dep name (length front)
      (length seen) value named (known_here Airport (seen ++ usual ∷ rest) second)
      (ap (has_kind cap.Dep) (seam front place back)) within few small
      ∙ ap (λ (places : List Place). Ok (with_places parts places))
      (changed_seam (with_change (change_to cap.Dep (length front) (length seen) value)) front place
      back ∙ ap (λ (caps : List ℕ). front ++ place_here Airport caps second ∷ back)
      (filled_one seen usual rest value))

  arr_read : (first : List ℕ) (usual at : ℕ) (seen rest : List ℕ) (value : ℕ)
      → length seen < parts.day.periods → value ≤ most_capacity
      → record_step (here Airport first (seen ++ usual ∷ rest)) at
      (cap_row (codes "arr") name (length seen) value)
      ≡ Ok (here Airport first (seen ++ value ∷ rest))
  arr_read first usual at seen rest value within small =
      let place = place_here Airport first (seen ++ usual ∷ rest) in
      cap_read (here Airport first (seen ++ usual ∷ rest)) at cap.Arr name (length front)
      (length seen) value named (known_here Airport first (seen ++ usual ∷ rest))
      (ap (has_kind cap.Arr) (seam front place back)) within few small
      ∙ ap (λ (places : List Place). Ok (with_places parts places))
      (changed_seam (with_change (change_to cap.Arr (length front) (length seen) value)) front place
      back ∙ ap (λ (caps : List ℕ). front ++ place_here Airport first caps ∷ back)
      (filled_one seen usual rest value))

  sector_read : (second : List ℕ) (usual at : ℕ) (seen rest : List ℕ) (value : ℕ)
      → length seen < parts.day.periods → value ≤ most_capacity
      → record_step (here Sector (seen ++ usual ∷ rest) second) at
      (cap_row (codes "sector") name (length seen) value)
      ≡ Ok (here Sector (seen ++ value ∷ rest) second)
  sector_read second usual at seen rest value within small =
      let place = place_here Sector (seen ++ usual ∷ rest) second in
      cap_read (here Sector (seen ++ usual ∷ rest) second) at cap.Sector name (length front)
      (length seen) value named (known_here Sector (seen ++ usual ∷ rest) second)
      (ap (has_kind cap.Sector) (seam front place back)) within few small
      ∙ ap (λ (places : List Place). Ok (with_places parts places))
      (changed_seam (with_change (change_to cap.Sector (length front) (length seen) value)) front
      place back ∙ ap (λ (caps : List ℕ). front ++ place_here Sector caps second ∷ back)
      (filled_one seen usual rest value))

  place_leads : (at : ℕ) (kind : PlaceKind) (first second : List ℕ)
      → length first ≡ parts.day.periods → length second ≡ arrival_count kind parts.day.periods
      → All (λ c. c ≤ most_capacity) first → All (λ c. c ≤ most_capacity) second
      → Leads at (here kind (replicate parts.day.periods (first_of first))
      (replicate (arrival_count kind parts.day.periods) (first_of second)))
      (change_rows_of kind (place_here kind first second)) (here kind first second)
  place_leads at Airport first second count count_too small small_too =
      let periods = parts.day.periods in
      let counted : 0 + length first ≡ periods = omega (arith, count) in
      let counted_too : 0 + length second ≡ periods = omega (arith, count_too) in
      let flat_second = replicate periods (first_of second) in
      let rows = cap_rows (codes "dep") name (first_of first) 0 first in
      let more = cap_rows (codes "arr") name (first_of second) 0 second in
      let one : Leads at (here Airport (replicate periods (first_of first)) flat_second) rows
      (here Airport first flat_second) =
      subst (λ (n : ℕ). Leads at (here Airport (replicate n (first_of first)) flat_second) rows
      (here Airport first flat_second)) count
      (caps_lead periods (first_of first) (codes "dep") name
      (λ (caps : List ℕ). here Airport caps flat_second) (dep_read flat_second (first_of first)) at
      [] first counted small) in
      let two : Leads (at + length rows) (here Airport first flat_second) more
      (here Airport first second) =
      subst (λ (n : ℕ). Leads (at + length rows)
      (here Airport first (replicate n (first_of second))) more (here Airport first second))
      count_too
      (caps_lead periods (first_of second) (codes "arr") name
      (λ (caps : List ℕ). here Airport first caps) (arr_read first (first_of second))
      (at + length rows) [] second counted_too small_too) in
      leads_both at (here Airport (replicate periods (first_of first)) flat_second)
      (here Airport first flat_second) (here Airport first second) rows more one two
  place_leads at Sector first [] count count_too small small_too =
      let periods = parts.day.periods in
      let counted : 0 + length first ≡ periods = omega (arith, count) in
      subst (λ (n : ℕ). Leads at (here Sector (replicate n (first_of first)) [])
      (cap_rows (codes "sector") name (first_of first) 0 first) (here Sector first [])) count
      (caps_lead periods (first_of first) (codes "sector") name
      (λ (caps : List ℕ). here Sector caps []) (sector_read [] (first_of first)) at [] first
      counted small)
  place_leads at Sector first (value ∷ second) count count_too small small_too =
      absurd (omega (arith, count_too))

module _ (parts : Parts) (valid : IsScenario parts) where
  pub changes_lead : (at : ℕ) (front places : List Place) → parts.places ≡ front ++ places
      → Leads at (with_places parts (front ++ map (flat parts.day.periods) places))
      (change_rows places) (with_places parts parts.places)
  changes_lead at front [] are =
      leads_same at (with_places parts (front ++ [])) (with_places parts (front ++ []))
      (with_places parts parts.places) []
      (ap (with_places parts) (sym are)) (leads_none at (with_places parts (front ++ [])))
  changes_lead at front (place ∷ places) are =
      let periods = parts.day.periods in
      let back = map (flat periods) places in
      let is : IsPlace periods place =
      found_holds (IsPlace periods) parts.places (length front) place valid.places.each
      (rw are (seam front place places)) in
      let names : place_names parts.places ≡ place_names front ++ place.name ∷ place_names back =
      ap place_names are ∙ map-append (λ (p : Place). p.name) front (place ∷ places)
      ∙ ap (λ (names : List (List ℕ)). place_names front ++ place.name ∷ names)
      (sym (names_flat periods places)) in
      let known : position_of place.name (place_names front ++ place.name ∷ place_names back)
      ≡ Some (length front) =
      ap (position_of place.name) (sym names)
      ∙ named_at (λ (p : Place). p.name) parts.places (length front) place valid.places.names
      (rw are (seam front place places)) in
      let rows = change_rows_of place.kind place in
      let one : Leads at (with_places parts (front ++ flat periods place ∷ back)) rows
      (with_places parts (front ++ place ∷ back)) =
      place_leads parts valid.day.periods_to front back place.name is.name known at place.kind
      place.first place.second is.first_count is.second_count is.first is.second in
      let two : Leads (at + length rows) (with_places parts (front ++ place ∷ back))
      (change_rows places) (with_places parts parts.places) =
      subst (λ (all : List Place). Leads (at + length rows) (with_places parts all)
      (change_rows places) (with_places parts parts.places))
      (append_assoc front (place ∷ []) back)
      (changes_lead (at + length rows) (front ++ place ∷ []) places
      (are ∙ sym (append_assoc front (place ∷ []) places))) in
      leads_both at (with_places parts (front ++ flat periods place ∷ back))
      (with_places parts (front ++ place ∷ back)) (with_places parts parts.places) rows
      (change_rows places) one two
