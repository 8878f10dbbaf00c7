use Rattle.scaled_simplex.specs.Program.{most_indices}
use Rattle.presolve.proofs.RowFacts.{ones_more, ones_room}
use Rattle.presolve.proofs.rows.add_ones.Goals as goal

pub add_one-requires-clause-few : goal.add_one-requires-clause-few
add_one-requires-clause-few c =
    ones_room c.loop-column.column c.args.count most_indices c.args.program.now
    c.loop-column.program c.loop-column.invariant c.loop-column-test.true c.requires.few

pub loop-column-preserved : goal.loop-column-preserved
loop-column-preserved c =
    ones_more c.loop-column.column c.args.program.now c.loop-column.program c.add_one.new.program
    c.loop-column.invariant c.in_ok-add_one.ensures
