-- The records of the day and of its places are read as the day and its places.
use Rattle.std.proofs.Common.{◌≡◌, ◌≢◌, ℕ, suc, ◌+◌, ◌<◌, ◌≤◌, true, List, [], ◌∷◌, ◌++◌, map, length, get_or, None, Ok, All, AllPairs, refl, sym, ap, subst, ◌∙◌, arith, append_assoc, length-append}
use Rattle.std.proofs.Math.Seq.{get_or-append_seam, take-append_seam}
use Rattle.std.proofs.lemmas.List.{append-nil, length-map, map-append}
use Rattle.std.specs.Prelude.{replicate}
use Rattle.flow_types.specs.Limits.{most_capacity, most_places}
use Rattle.flow_types.specs.Words.{is_name}
use Rattle.flow_types.specs.declared.place.Place.{Place}
use Rattle.flow_types.specs.declared.place.PlaceKind.{PlaceKind}
use Rattle.flow_types.specs.declared.place.PlaceKind.TheVariants.{Airport, Sector}
use Rattle.flow_types.specs.declared.parts.Parts.{Parts}
use Rattle.flow_types.specs.Valid.{IsPlace, IsScenario, arrival_count}
use Rattle.plan_text.proofs.NameFacts.{fresh}
use Rattle.text_records.specs.Names.{position_of}
use Rattle.scenario_reader.specs.DraftParts.{DraftParts, place_names}
use Rattle.scenario_reader.specs.Places.{airport_of, sector_of}
use Rattle.scenario_reader.specs.Reading.{airport_step, record_step, sector_step, with_place}
use Rattle.scenario_maker.specs.Writing.{first_of, place_row, place_row_of}
use Rattle.scenario_maker.proofs.StepFacts.{Leads, leads_more, leads_none, leads_same, new_back, number_between, seam}
use Rattle.scenario_maker.proofs.PlainFacts.{found_holds}

-- the place with its capacities of period 0 all day
abbrev pub flat : ℕ → Place → Place
flat periods place = record {
  name = place.name;
  kind = place.kind;
  first = replicate periods (first_of place.first);
  second = replicate (arrival_count place.kind periods) (first_of place.second);
}

pub place_read : (draft : DraftParts) (at : ℕ) (kind : PlaceKind) (name first second : List ℕ)
    → is_name name ≡ true → position_of name (place_names draft.places) ≡ None
    → length (place_names draft.places) < most_places → first_of first ≤ most_capacity
    → first_of second ≤ most_capacity
    → record_step draft at (place_row_of kind (record {
      name = name;
      kind = kind;
      first = first;
      second = second;
    })) ≡ Ok (with_place draft (flat draft.day.periods (record {
      name = name;
      kind = kind;
      first = first;
      second = second;
    })))
unfolding record_step airport_step sector_step airport_of sector_of
place_read draft at Airport name first second named fresh room few few_too =
    let fields = place_row_of Airport (record {
      name = name;
      kind = Airport;
      first = first;
      second = second;
    }) in
    rw (
      new_back fields most_places (place_names draft.places) name refl named fresh room,
      number_between fields 3 (first_of first) 0 most_capacity refl (omega (arith, few))
          (omega arith) few,
      number_between fields 4 (first_of second) 0 most_capacity refl (omega (arith, few_too))
          (omega arith) few_too,
    ) refl
place_read draft at Sector name first second named fresh room few few_too =
    let fields = place_row_of Sector (record {
      name = name;
      kind = Sector;
      first = first;
      second = second;
    }) in
    rw (
      new_back fields most_places (place_names draft.places) name refl named fresh room,
      number_between fields 3 (first_of first) 0 most_capacity refl (omega (arith, few))
          (omega arith) few,
    ) refl

pub names_flat : (periods : ℕ) (places : List Place)
    → place_names (map (flat periods) places) ≡ place_names places
names_flat periods [] = refl
names_flat periods (place ∷ places) =
    ap (λ (names : List (List ℕ)). place.name ∷ names) (names_flat periods places)

first_small : (caps : List ℕ) (most : ℕ) → All (λ c. c ≤ most) caps → first_of caps ≤ most
first_small [] most all = omega arith
first_small (cap ∷ caps) most all = all 0 0 (omega arith)

-- a name that differs from all others isn't among those before it
pub fresh_behind : {X : Type 0} (f : X → List ℕ) (before : List X) (x : X) (rest : List X)
    → AllPairs (λ a b. f a ≢ f b) (before ++ x ∷ rest) → position_of (f x) (map f before) ≡ None
fresh_behind f before x rest apart =
    let within : length before < length (before ++ x ∷ rest) =
    omega (arith, length-append before (x ∷ rest)) in
    let here : x ≡ get_or (before ++ x ∷ rest) (length before) x =
    sym (get_or-append_seam before x rest x) in
    ap (λ xs. position_of (f x) (map f xs)) (sym (take-append_seam before (x ∷ rest)))
    ∙ fresh f (before ++ x ∷ rest) (length before) x apart within here

-- the day with these places alone
abbrev pub with_places : Parts → List Place → DraftParts
with_places parts places =
    record { day = parts.day; places = places; flights = []; tables = []; connections = [] }

module _ (parts : Parts) (valid : IsScenario parts) where
  pub places_lead : (at : ℕ) (before places : List Place) → parts.places ≡ before ++ places
      → Leads at (with_places parts (map (flat parts.day.periods) before)) (map place_row places)
      (with_places parts (map (flat parts.day.periods) parts.places))
  places_lead at before [] are =
      let all = with_places parts (map (flat parts.day.periods) before) in
      leads_same at all all (with_places parts (map (flat parts.day.periods) parts.places)) []
      (ap (λ (places : List Place). with_places parts (map (flat parts.day.periods) places))
      (sym (are ∙ append-nil before))) (leads_none at all)
  places_lead at before (place ∷ places) are =
      let periods = parts.day.periods in
      let draft = with_places parts (map (flat periods) before) in
      let is : IsPlace periods place =
      found_holds (IsPlace periods) parts.places (length before) place valid.places.each
      (rw are (seam before place places)) in
      let fresh_name : position_of place.name (place_names (map (flat periods) before)) ≡ None =
      rw (names_flat periods before) (fresh_behind (λ (p : Place). p.name) before place places
      (subst (AllPairs (λ (a b : Place). a.name ≢ b.name)) are valid.places.names)) in
      let count : length (place_names (map (flat periods) before)) ≡ length before =
      ap length (names_flat periods before) ∙ length-map before (λ (p : Place). p.name) in
      let all : length parts.places ≡ length before + suc (length places) =
      ap length are ∙ length-append before (place ∷ places) in
      let few : length parts.places ≤ most_places = valid.places.few in
      let room : length (place_names (map (flat periods) before)) < most_places =
      omega (arith, count, all, few) in
      let step : record_step draft at (place_row place)
      ≡ Ok (with_places parts (map (flat periods) (before ++ place ∷ []))) =
      place_read draft at place.kind place.name place.first place.second is.name fresh_name room
      (first_small place.first most_capacity is.first)
      (first_small place.second most_capacity is.second)
      ∙ ap (λ (all : List Place). Ok (with_places parts all))
      (sym (map-append (flat periods) before (place ∷ []))) in
      leads_more at draft (with_places parts (map (flat periods) (before ++ place ∷ [])))
      (with_places parts (map (flat periods) parts.places)) (place_row place)
      (map place_row places) step
      (places_lead (at + 1) (before ++ place ∷ []) places
      (are ∙ sym (append_assoc before (place ∷ []) places)))
