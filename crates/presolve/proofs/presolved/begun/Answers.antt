use Rattle.std.proofs.Common.{◌∙◌, ap, map, pos, unsigned_abs}
use Rattle.flow_types.specs.Scenario.{parts_of}
use Rattle.time_windows.specs.Held.{box_of}
use Rattle.presolve.proofs.ProgramFacts.{sizes_are, sizes_few}
use Rattle.presolve.proofs.presolved.begun.Goals as goal

pub new-requires-clause-costs : goal.new-requires-clause-costs
new-requires-clause-costs c =
    sizes_are (parts_of c.args.s.now) (box_of c.args.boxes.now) c.args.costs.now.values.items
    c.args.costs.now.constant c.requires c.deref-2.result.now
    (c.deref-2.ensures.value ∙ c.in_ok-sizes.ensures
    ∙ ap (map (λ value. pos (unsigned_abs value))) c.deref.ensures.value)

pub new-requires-clause-few : goal.new-requires-clause-few
new-requires-clause-few c =
    sizes_few (parts_of c.args.s.now) (box_of c.args.boxes.now) c.args.costs.now.values.items
    c.deref-2.result.now c.args.costs.now.constant c.args.s.now.valid c.requires
    (c.deref-2.ensures.value ∙ c.in_ok-sizes.ensures
    ∙ ap (map (λ value. pos (unsigned_abs value))) c.deref.ensures.value)
