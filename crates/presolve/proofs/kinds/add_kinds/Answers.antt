use Rattle.std.proofs.Common.{◌+◌, get_or, take}
use Rattle.std.proofs.lemmas.Result.{err_from_is_err_and}
use Rattle.scaled_simplex.specs.Program.{most_indices}
use Rattle.bytime_model.specs.AllRows.{kind_rows, kinds_rows}
use Rattle.exact_sums.proofs.LoopFacts.{next_item}
use Rattle.presolve.specs.Frames.{box_in, parts_in, pool_in}
use Rattle.presolve.proofs.NamesFacts.{adds_both, adds_room, adds_wide, front_taken}
use Rattle.presolve.proofs.kinds.add_kinds.Goals as goal

pub add_kind-requires-clause-few : goal.add_kind-requires-clause-few
add_kind-requires-clause-few c =
    let parts = parts_in c.args.frame.now in
    let kinds = c.args.kinds.now in
    let i = c.loop-kind.kind-index in
    adds_room parts (pool_in c.args.frame.now) (box_in c.args.frame.now)
    (kinds_rows parts (take i kinds))
    (kind_rows parts (get_or kinds i _)) (kinds_rows parts (take (i + 1) kinds))
    (kinds_rows parts kinds) c.args.draft.now c.loop-kind.draft most_indices
    c.loop-kind.invariant (next_item (kind_rows parts) kinds i _ c.loop-kind-test.true)
    (front_taken (kind_rows parts) kinds (i + 1)) c.requires.few

pub returns-in_err-add_kind-clause-wide : goal.returns-in_err-add_kind-clause-wide
returns-in_err-add_kind-clause-wide c =
    let parts = parts_in c.args.frame.now in
    let kinds = c.args.kinds.now in
    let i = c.loop-kind.kind-index in
    let p = err_from_is_err_and c.from_residual.result c.from_residual.ensures.1 in
    rw (p.1, p.2)
    (adds_wide parts (pool_in c.args.frame.now) (box_in c.args.frame.now)
    (kinds_rows parts (take i kinds))
    (kind_rows parts (get_or kinds i _)) (kinds_rows parts (take (i + 1) kinds))
    (kinds_rows parts kinds) c.args.draft.now c.loop-kind.draft c.in_err-add_kind.field-0.0
    c.loop-kind.invariant (next_item (kind_rows parts) kinds i _ c.loop-kind-test.true)
    (front_taken (kind_rows parts) kinds (i + 1)) c.in_err-add_kind.ensures.wide)

pub loop-kind-preserved : goal.loop-kind-preserved
loop-kind-preserved c =
    let parts = parts_in c.args.frame.now in
    let kinds = c.args.kinds.now in
    let i = c.loop-kind.kind-index in
    adds_both parts (pool_in c.args.frame.now) (box_in c.args.frame.now)
    (kinds_rows parts (take i kinds))
    (kind_rows parts (get_or kinds i _)) (kinds_rows parts (take (i + 1) kinds))
    c.args.draft.now c.loop-kind.draft c.add_kind.new.draft c.loop-kind.invariant
    c.in_ok-add_kind.ensures.adds
    (next_item (kind_rows parts) kinds i _ c.loop-kind-test.true)
