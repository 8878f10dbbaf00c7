use Rattle.std.proofs.Common.{◌≡◌, ◌∷◌, ◌∙◌, sym}
use Rattle.std.proofs.lemmas.Result.{err_from_is_err_and}
use Rattle.csv.specs.Records.{fields_of}
use Rattle.text_records.specs.Rows.{rows_of}
use Rattle.scenario_reader.proofs.ReadingFacts.{first_refused, no_first, rest_is, rest_refused}
use Rattle.scenario_reader.proofs.reading.scenario_of.Goals as goal

pub returns-then-not-branch : goal.returns-then-not-branch
returns-then-not-branch c =
    no_first _ (sym c.of_text-rows.ensures.rows
    ∙ rw c.if-not-branch.true at c.in_ok-next_row.ensures.takes)

pub returns-in-Err : goal.returns-in-Err
returns-in-Err c =
    let here : rows_of c.args.text.now ≡ fields_of c.next_row.new.row ∷ c.next_row.new.self =
    sym c.of_text-rows.ensures.rows ∙ rw c.if-not-branch.false at c.in_ok-next_row.ensures.takes in
    rw c.refusal_of.ensures (first_refused _ _ _ _ here c.in-Err.ensures)

pub returns-in_err-records_step : goal.returns-in_err-records_step
returns-in_err-records_step c =
    let here : rows_of c.args.text.now ≡ fields_of c.next_row.new.row ∷ c.next_row.new.self =
    sym c.of_text-rows.ensures.rows ∙ rw c.if-not-branch.false at c.in_ok-next_row.ensures.takes in
    let exit = err_from_is_err_and c.from_residual-in_err-records_step.result
    c.from_residual-in_err-records_step.ensures.1 in
    rw (exit.1, exit.2) (rest_refused _ _ _ _ _ here c.in-Ok.ensures c.in_err-records_step.ensures)

pub returns : goal.returns
returns c =
    let here : rows_of c.args.text.now ≡ fields_of c.next_row.new.row ∷ c.next_row.new.self =
    sym c.of_text-rows.ensures.rows ∙ rw c.if-not-branch.false at c.in_ok-next_row.ensures.takes in
    rw (rest_is _ _ _ _ _ here c.in-Ok.ensures c.in_ok-records_step.ensures) c.finished.ensures
