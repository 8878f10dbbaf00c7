use Rattle.flow_types.specs.Scenario.{parts_of}
use Rattle.cut_rows.proofs.CutLaws.{held_collected, held_valid}
use Rattle.cut_rows.proofs.fill.fill_cut.Goals as goal

pub returns-clause-valid : goal.returns-clause-valid
returns-clause-valid c =
    held_valid (parts_of c.args.s.now) c.args.cut.now c.fill_by.new.buffer c.fill_by.result
    c.args.s.now.valid c.fill_by.ensures.told c.fill_by.ensures.row c.fill_by.ensures.none

pub returns-clause-collected : goal.returns-clause-collected
returns-clause-collected c =
    held_collected (parts_of c.args.s.now) c.args.cut.now c.fill_by.new.buffer c.fill_by.result
    c.args.s.now.valid c.fill_by.ensures.told c.fill_by.ensures.row c.fill_by.ensures.none
