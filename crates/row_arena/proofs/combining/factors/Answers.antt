use Rattle.row_arena.proofs.PlaceFacts.{factors_near}
use Rattle.row_arena.proofs.combining.factors.Goals as goal

pub returns-clause-near : goal.returns-clause-near
returns-clause-near c =
    factors_near c.args.target.now c.args.pivot.now c.args.column c.entry_in.result
    c.entry_in-2.result c.requires.target c.requires.pivot c.entry_in.ensures c.entry_in-2.ensures
