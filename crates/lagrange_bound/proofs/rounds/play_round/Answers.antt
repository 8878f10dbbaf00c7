use Rattle.std.proofs.Common.{refl}
use Rattle.time_windows.specs.Subproblems.{box_in, parts_in}
use Rattle.lagrange_bound.proofs.BestFacts.{best_changes, best_stays}
use Rattle.lagrange_bound.proofs.rounds.play_round.Goals as goal

pub returns-then-is_above-clause-played : goal.returns-then-is_above-clause-played
returns-then-is_above-clause-played c =
    let box = box_in c.args.problem in
    best_changes (parts_in c.args.problem) box c.args.problem.s.now.valid c.args.played
    c.args.tables.now.present
    c.args.tables.now.best c.move_on.new.prices c.args.loads.now c.tell-told.new.loads c.args.bound
    c.tell-told.result c.requires.played (c.move_on.ensures.step box c.requires.taken)
    c.move_on.ensures.size c.move_on.ensures.low c.tell-told.ensures.told
    c.tell-told.ensures.taken c.copy_from.new.self c.copy_from.ensures
    (c.if-is_above.ensures.above refl)

pub returns-else-is_above-clause-played : goal.returns-else-is_above-clause-played
returns-else-is_above-clause-played c =
    let box = box_in c.args.problem in
    best_stays (parts_in c.args.problem) box c.args.problem.s.now.valid c.args.played
    c.args.tables.now.present
    c.args.tables.now.best c.move_on.new.prices c.args.loads.now c.tell-told.new.loads c.args.bound
    c.tell-told.result c.requires.played (c.move_on.ensures.step box c.requires.taken)
    c.move_on.ensures.size c.move_on.ensures.low c.tell-told.ensures.told
    c.tell-told.ensures.taken (c.if-is_above.ensures.not refl)
