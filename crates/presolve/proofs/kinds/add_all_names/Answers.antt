use Rattle.std.proofs.Common.{subst}
use Rattle.std.proofs.lemmas.Result.{err_from_is_err_and}
use Rattle.scaled_simplex.specs.Program.{most_indices}
use Rattle.bytime_model.specs.AllRows.{kinds_rows}
use Rattle.presolve.specs.Frames.{box_in, parts_in, pool_in}
use Rattle.presolve.specs.Listing.{AddsNames}
use Rattle.presolve.proofs.NamesFacts.{cuts_room, cuts_wide}
use Rattle.presolve.proofs.kinds.add_all_names.Goals as goal

pub add_cuts-requires-clause-few : goal.add_cuts-requires-clause-few
add_cuts-requires-clause-few c =
    let parts = parts_in c.args.frame.now in
    let pool = pool_in c.args.frame.now in
    let box = box_in c.args.frame.now in
    let day = subst (λ kinds. AddsNames parts pool box (kinds_rows parts kinds) c.args.draft.now
    c.add_kinds.new.draft) c.row_kinds-kinds.ensures c.in_ok-add_kinds.ensures.adds in
    cuts_room parts pool box c.args.draft.now c.add_kinds.new.draft day most_indices c.requires.few

pub returns-in_err-add_cuts-clause-wide : goal.returns-in_err-add_cuts-clause-wide
returns-in_err-add_cuts-clause-wide c =
    let parts = parts_in c.args.frame.now in
    let pool = pool_in c.args.frame.now in
    let box = box_in c.args.frame.now in
    let day = subst (λ kinds. AddsNames parts pool box (kinds_rows parts kinds) c.args.draft.now
    c.add_kinds.new.draft) c.row_kinds-kinds.ensures c.in_ok-add_kinds.ensures.adds in
    let p = err_from_is_err_and c.from_residual-in_err-add_cuts.result
    c.from_residual-in_err-add_cuts.ensures.1 in
    rw (p.1, p.2)
    (cuts_wide parts pool box c.args.draft.now c.add_kinds.new.draft day
    c.in_err-add_cuts.field-0.0 c.in_err-add_cuts.ensures.wide)
