-- The text of a scenario is read as the scenario.
use Rattle.std.proofs.Common.{◌≡◌, ℕ, ◌+◌, ◌≤◌, List, [], ◌∷◌, ◌++◌, append-nil, map, length, Ok, refl, sym, ap, ◌∙◌}
use Rattle.flow_types.specs.Valid.{IsScenario}
use Rattle.flow_types.specs.declared.parts.Parts.{Parts}
use Rattle.text_records.specs.Rows.{Fields}
use Rattle.scenario_reader.specs.DraftParts.{DraftParts}
use Rattle.scenario_reader.specs.Finish.{finished}
use Rattle.scenario_reader.specs.Reading.{first_step, no_parts, records_step, scenario_from, scenario_of}
use Rattle.scenario_maker.specs.Made.{made_parts, made_text}
use Rattle.scenario_maker.specs.Order.{AreInOrder}
use Rattle.scenario_maker.specs.Writing.{change_rows, day_row, place_row, scenario_rows, scenario_text, table_row, traffic_rows}
use Rattle.scenario_maker.proofs.CapFacts.{changes_lead}
use Rattle.scenario_maker.proofs.DayFacts.{day_read}
use Rattle.scenario_maker.proofs.FlightFacts.{drafts_done}
use Rattle.scenario_maker.proofs.LegFacts.{with_drafts}
use Rattle.scenario_maker.proofs.MadeFacts.{made_in_order, made_is}
use Rattle.scenario_maker.proofs.PlaceFacts.{flat, places_lead, with_places}
use Rattle.scenario_maker.proofs.PlainFacts.{rows_back}
use Rattle.scenario_maker.proofs.StepFacts.{Leads, leads_both}
use Rattle.scenario_maker.proofs.TableFacts.{tables_lead, with_tables}
use Rattle.scenario_maker.proofs.TrafficFacts.{all_wait, traffic_lead}

-- what the records after the first lead to
led_to : (at : ℕ) (draft last : DraftParts) (rows : List Fields) → Leads at draft rows last
    → records_step at draft rows ≡ Ok last
unfolding records_step
led_to at draft last rows leads = ap (records_step at draft) (sym (append-nil rows)) ∙ leads []

from_rows : (day : Fields) (rows : List Fields) (first last : DraftParts) (parts : Parts)
    → first_step day ≡ Ok first → records_step 2 first rows ≡ Ok last → finished last ≡ Ok parts
    → scenario_from (day ∷ rows) ≡ Ok parts
unfolding scenario_from
from_rows day rows first last parts begins more ends = rw (begins, more, ends) refl

module _ (parts : Parts) (valid : IsScenario parts) (order : AreInOrder parts.flights) where
  rows_read : scenario_from (scenario_rows parts) ≡ Ok parts
  unfolding finished
  rows_read =
      let places = map place_row parts.places in
      let changes = change_rows parts.places in
      let tables = map table_row parts.tables in
      let traffic = traffic_rows parts.places parts.tables parts.flights 0 parts.flights
      parts.connections in
      let at_changes = 2 + length places in
      let at_tables = at_changes + length changes in
      let at_traffic = at_tables + length tables in
      let read = traffic_lead parts valid at_traffic [] [] parts.flights [] parts.connections 0 refl
      refl tt refl (all_wait parts.connections) order in
      let last = with_drafts parts parts.connections read.0 in
      let flat_places = with_places parts (map (flat parts.day.periods) parts.places) in
      let leads : Leads 2 (no_parts parts.day) (places ++ (changes ++ (tables ++ traffic))) last =
      leads_both 2 (no_parts parts.day) flat_places last places (changes ++ (tables ++ traffic))
      (places_lead parts valid 2 [] parts.places refl)
      (leads_both at_changes flat_places (with_places parts parts.places) last changes
      (tables ++ traffic)
      (changes_lead parts valid at_changes [] parts.places refl)
      (leads_both at_tables (with_places parts parts.places) (with_tables parts parts.tables) last
      tables traffic
      (tables_lead parts valid at_tables [] parts.tables refl) read.2)) in
      from_rows (day_row parts.day) (places ++ (changes ++ (tables ++ traffic)))
      (no_parts parts.day) last parts (day_read parts.day valid.day)
      (led_to 2 (no_parts parts.day) last (places ++ (changes ++ (tables ++ traffic))) leads)
      (rw (drafts_done read.0 parts.flights read.1) refl)

  pub text_back : scenario_of (scenario_text parts) ≡ Ok parts
  text_back = ap scenario_from (rows_back parts valid) ∙ rows_read

-- the text of a made day is read as that day
pub made_back : (n : ℕ) (parts : Parts) → n ≤ 2000 → parts ≡ made_parts n
    → scenario_of (made_text n) ≡ Ok parts
unfolding made_text
made_back n parts few same =
    text_back (made_parts n) (made_is n few) (made_in_order n) ∙ ap (λ (p : Parts). Ok p) (sym same)
