use Rattle.cut_rows.specs.Relaxations.{parts_under}
use Rattle.cut_rows.proofs.RelaxationFacts.{tight_under}
use Rattle.presolve.proofs.NumberFacts.{columns_own, numbered_for}
use Rattle.presolve.proofs.numbers.Numbers.new.Goals as goal

pub numbers_of-requires-clause-own : goal.numbers_of-requires-clause-own
numbers_of-requires-clause-own c =
    let relaxation = c.args.relaxation in
    columns_own (parts_under relaxation) relaxation.table.now.columns
    relaxation.problem.boxes.now c.args.columns.now relaxation.suits.columns
    relaxation.problem.made (tight_under relaxation) c.requires

pub returns : goal.returns
returns c =
    let relaxation = c.args.relaxation in
    numbered_for (parts_under relaxation) relaxation.table.now.columns
    relaxation.problem.boxes.now c.args.columns.now c.in_ok-numbers.numbers.items
    relaxation.suits.columns relaxation.problem.made (tight_under relaxation) c.requires
    c.in_ok-numbers.ensures
