use Rattle.flow_types.specs.Scenario.{parts_of}
use Rattle.bytime_model.proofs.NumberFacts.{ready_box}
use Rattle.cut_tests.proofs.cuts.exceeded.Goals as goal

pub separate-requires-clause-ready : goal.separate-requires-clause-ready
separate-requires-clause-ready c =
    ready_box (parts_of c.args.s.now) c.in_ok-table.table.columns c.in_ok-boxes.boxes
    c.in_ok-table.ensures.columns c.in_ok-boxes.ensures.made c.in_ok-boxes.ensures.tight
