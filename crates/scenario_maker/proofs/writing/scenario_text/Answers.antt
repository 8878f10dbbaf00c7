use Rattle.std.proofs.Common.{◌++◌, ◌∙◌, ap, map}
use Rattle.flow_types.specs.Scenario.{parts_of}
use Rattle.scenario_maker.specs.Writing.{change_rows, day_row, place_row, row_text, rows_text, table_row, traffic_rows}
use Rattle.scenario_maker.proofs.TextFacts.{five_texts, text_is}
use Rattle.scenario_maker.proofs.writing.scenario_text.Goals as goal

pub returns : goal.returns
returns c =
    let parts = parts_of c.args.s.now in
    five_texts (row_text (day_row parts.day)) (rows_text (map place_row parts.places))
    (rows_text (change_rows parts.places)) (rows_text (map table_row parts.tables))
    (rows_text (traffic_rows parts.places parts.tables parts.flights 0 parts.flights
    parts.connections)) c.new-out.result.items
    c.put_day.new.out.items c.put_places.new.out.items c.put_changes.new.out.items
    c.put_tables.new.out.items c.put_traffic.new.out.items
    (c.in_ok-put_day.ensures
    ∙ ap (λ day. c.new-out.result.items ++ row_text (day_row day)) c.day.ensures)
    (c.in_ok-put_places.ensures
    ∙ ap (λ places. c.put_day.new.out.items ++ rows_text (map place_row places)) c.places.ensures)
    (c.in_ok-put_changes.ensures
    ∙ ap (λ places. c.put_places.new.out.items ++ rows_text (change_rows places))
    c.places-2.ensures)
    (c.in_ok-put_tables.ensures
    ∙ ap (λ tables. c.put_changes.new.out.items ++ rows_text (map table_row tables))
    c.tables.ensures)
    c.in_ok-put_traffic.ensures c.new-out.ensures.items
    ∙ text_is parts
