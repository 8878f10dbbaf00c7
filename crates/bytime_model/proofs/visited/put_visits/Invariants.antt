use Rattle.std.proofs.Common.{◌*◌, take}
use Rattle.std.specs.List.{flat_map}
use Rattle.flow_types.specs.Scenario.{parts_of}
use Rattle.bytime_model.specs.Filling.{visit_terms_in}
use Rattle.bytime_model.proofs.FillFacts.{IsFilled}
use Rattle.bytime_model.proofs.visited.put_visits.Given as goal

abbrev pub invariant-loop-visit : goal.invariant-loop-visit
invariant-loop-visit l =
    IsFilled (flat_map (visit_terms_in l.kind l.time (parts_of l.s).flights)
    (take l.visit-index l.visits)) (2 * l.visit-index) l.initial.buffer l.buffer
