use Rattle.flow_types.specs.Scenario.{parts_of}
use Rattle.time_windows.specs.Held.{box_of}
use Rattle.dual_leaf.proofs.OptionFacts.{no_plan_by}
use Rattle.dual_leaf.proofs.plain.empty_bound.Goals as goal

pub returns-in-Some-clause-sound : goal.returns-in-Some-clause-sound
returns-in-Some-clause-sound c =
    no_plan_by (parts_of c.args.s.now) (box_of c.args.boxes.now) c.in-Some.field-0.flight
    c.in-Some.field-0.node c.requires.inside c.in-Some.ensures.here
