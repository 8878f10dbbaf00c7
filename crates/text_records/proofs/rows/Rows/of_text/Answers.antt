use Rattle.text_records.proofs.RowFacts.{few_of_text}
use Rattle.text_records.proofs.rows.Rows.of_text.Goals as goal

pub returns-clause-few : goal.returns-clause-few
returns-clause-few c =
    let read = c.from_reader-reader.ensures in
    rw (read.state, read.source) (few_of_text c.args.text.now)
