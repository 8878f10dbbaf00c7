use Rattle.std.proofs.Common.{subst, sym}
use Rattle.flow_types.specs.Scenario.{parts_of}
use Rattle.time_windows.specs.Held.{box_of}
use Rattle.bytime_model.specs.Left.{Agrees}
use Rattle.bytime_model.specs.Values.{value_at}
use Rattle.bytime_model.proofs.LeftFacts.{agrees}
use Rattle.bytime_model.proofs.left.left_of.Goals as goal

pub returns-clause-agrees : goal.returns-clause-agrees
returns-clause-agrees c = λ plan trips inside.
    let parts = parts_of c.args.s.now in
    subst (Agrees (value_at parts.flights plan) c.args.variable) (sym c.left_at.ensures)
    (agrees parts plan c.args.s.now.valid trips (box_of c.args.boxes.now) c.requires.made.inside
    inside
    c.args.variable)
