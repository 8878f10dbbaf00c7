use Rattle.flow_types.specs.Scenario.{parts_of}
use Rattle.bytime_model.proofs.RowLaws.{held_collected, row_valid}
use Rattle.bytime_model.proofs.buffer.RowBuffer.fill.Goals as goal

pub returns-clause-valid : goal.returns-clause-valid
returns-clause-valid c =
    row_valid (parts_of c.args.s.now) c.args.name c.fill_by.new.buffer c.fill_by.result
    c.args.s.now.valid c.fill_by.ensures.told c.fill_by.ensures.row c.fill_by.ensures.none

pub returns-clause-collected : goal.returns-clause-collected
returns-clause-collected c =
    held_collected (parts_of c.args.s.now) c.args.s.now.valid c.args.name c.fill_by.new.buffer
    c.fill_by.result c.fill_by.ensures.told c.fill_by.ensures.row c.fill_by.ensures.none
