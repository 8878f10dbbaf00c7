use Rattle.presolve.specs.Frames.{box_in, parts_in, pool_in}
use Rattle.presolve.proofs.ProgramFacts.{kept_is, ones_room, rows_are, rows_room}
use Rattle.presolve.proofs.presolved.add_all.Goals as goal

pub add_all_names-requires-clause-few : goal.add_all_names-requires-clause-few
add_all_names-requires-clause-few c =
    rows_room (parts_in c.args.frame.now) (pool_in c.args.frame.now) (box_in c.args.frame.now)
    c.args.count c.args.draft.now.program c.args.frame.now.relaxation.problem.s.now.valid
    c.requires.framed.cuts
    c.requires.columns c.requires.count c.requires.rows

pub add_ones-requires-clause-few : goal.add_ones-requires-clause-few
add_ones-requires-clause-few c =
    ones_room (parts_in c.args.frame.now) (pool_in c.args.frame.now) (box_in c.args.frame.now)
    c.args.draft.now.kept c.add_all_names.new.draft.kept c.args.count c.args.draft.now.program
    c.add_all_names.new.draft.program c.args.frame.now.relaxation.problem.s.now.valid
    c.requires.framed.cuts
    c.in_ok-add_all_names.ensures.adds.rows c.requires.rows c.requires.columns c.requires.count

pub returns-clause-program : goal.returns-clause-program
returns-clause-program c =
    rows_are (parts_in c.args.frame.now) (pool_in c.args.frame.now) (box_in c.args.frame.now)
    c.args.draft.now.kept c.add_all_names.new.draft.kept c.args.count c.args.draft.now.program
    c.add_all_names.new.draft.program c.add_ones.new.program
    c.in_ok-add_all_names.ensures.adds.rows c.in_ok-add_ones.ensures c.requires.count

pub returns-clause-kept : goal.returns-clause-kept
returns-clause-kept c =
    kept_is (parts_in c.args.frame.now) (pool_in c.args.frame.now) (box_in c.args.frame.now)
    c.args.draft.now.kept c.add_all_names.new.draft.kept c.args.draft.now.program
    c.add_all_names.new.draft.program c.in_ok-add_all_names.ensures.adds.rows c.requires.none
