use Rattle.flow_types.specs.Scenario.{parts_of}
use Rattle.time_windows.specs.Held.{box_of}
use Rattle.dual_leaf.proofs.LagFacts.{priced-small, table-sound}
use Rattle.dual_leaf.proofs.lag.lag_answer.Goals as goal

pub table_answer-requires-clause-small : goal.table_answer-requires-clause-small
table_answer-requires-clause-small c =
    priced-small (parts_of c.args.s.now) c.args.rows.now c.set_prices.new.prices
    c.set_prices.ensures c.requires.range.values

pub returns-clause-sound : goal.returns-clause-sound
returns-clause-sound c =
    table-sound (parts_of c.args.s.now) (box_of c.args.boxes.now) c.args.weight
    c.set_prices.new.prices c.table_answer.result c.args.s.now.valid c.table_answer.ensures.answered
