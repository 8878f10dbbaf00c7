use Rattle.std.proofs.Common.{◌≡◌, ◌∷◌, length, ap, arith}
use Rattle.csv.specs.Records.{fields_of}
use Rattle.scenario_reader.proofs.ReadingFacts.{next_record, no_record, refused_record}
use Rattle.scenario_reader.proofs.reading.records_step.Goals as goal

pub returns-in-Err : goal.returns-in-Err
returns-in-Err c =
    let here = rw c.if-branch.true at c.in_ok-next_row.ensures.takes in
    rw c.refusal_of.ensures
    (refused_record _ _ _ _ _ _ _ here c.in-Err.ensures c.records.invariant.0)

pub records-preserved : goal.records-preserved
records-preserved c =
    let here : c.records.rows ≡ fields_of c.next_row.new.row ∷ c.next_row.new.self =
    rw c.if-branch.true at c.in_ok-next_row.ensures.takes in
    let small = c.records.invariant.1 in
    let less = ap length here in
    (next_record _ _ _ _ _ _ _ here c.in_default.ensures c.records.invariant.0, omega arith)

pub returns : goal.returns
returns c = no_record _ _ _ _
    (rw c.if-branch.false at c.in_ok-next_row.ensures.takes) c.records.invariant.0
