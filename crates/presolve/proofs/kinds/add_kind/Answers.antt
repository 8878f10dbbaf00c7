use Rattle.std.proofs.Common.{◌∙◌, arith, ◌+◌}
use Rattle.std.proofs.lemmas.Result.{err_from_is_err_and}
use Rattle.std.specs.List.{flat_map, range_with_len}
use Rattle.exact_sums.proofs.RangeFacts.{flat_map_next}
use Rattle.scaled_simplex.specs.Program.{most_indices}
use Rattle.bytime_model.specs.AllRows.{kind_rows, part_rows}
use Rattle.bytime_model.specs.Kinds.{part_count}
use Rattle.presolve.specs.Frames.{box_in, parts_in, pool_in}
use Rattle.presolve.proofs.NamesFacts.{adds_both, adds_room, adds_wide, front_ranged}
use Rattle.presolve.proofs.kinds.add_kind.Goals as goal

pub add_rows-requires-clause-few : goal.add_rows-requires-clause-few
add_rows-requires-clause-few c =
    let part = part_rows (parts_in c.args.frame.now) c.args.kind in
    let i = c.loop-position.position in
    adds_room (parts_in c.args.frame.now) (pool_in c.args.frame.now) (box_in c.args.frame.now)
    (flat_map part (range_with_len 0 i)) c.items.result.now
    (flat_map part (range_with_len 0 (i + 1))) (kind_rows (parts_in c.args.frame.now) c.args.kind)
    c.args.draft.now c.loop-position.draft most_indices c.loop-position.invariant
    (flat_map_next part i c.items.result.now (c.items.ensures ∙ c.in_ok-names.ensures))
    (front_ranged part 0 (i + 1) (part_count (parts_in c.args.frame.now) c.args.kind)
    (omega (arith, c.loop-position-test.true, c.part_count-position-end.ensures)))
    c.requires.few

pub returns-in_err-add_rows-clause-wide : goal.returns-in_err-add_rows-clause-wide
returns-in_err-add_rows-clause-wide c =
    let part = part_rows (parts_in c.args.frame.now) c.args.kind in
    let i = c.loop-position.position in
    let p = err_from_is_err_and c.from_residual-in_err-add_rows.result
    c.from_residual-in_err-add_rows.ensures.1 in
    rw (p.1, p.2)
    (adds_wide (parts_in c.args.frame.now) (pool_in c.args.frame.now) (box_in c.args.frame.now)
    (flat_map part (range_with_len 0 i)) c.items.result.now
    (flat_map part (range_with_len 0 (i + 1))) (kind_rows (parts_in c.args.frame.now) c.args.kind)
    c.args.draft.now c.loop-position.draft c.in_err-add_rows.field-0.0 c.loop-position.invariant
    (flat_map_next part i c.items.result.now (c.items.ensures ∙ c.in_ok-names.ensures))
    (front_ranged part 0 (i + 1) (part_count (parts_in c.args.frame.now) c.args.kind)
    (omega (arith, c.loop-position-test.true, c.part_count-position-end.ensures)))
    c.in_err-add_rows.ensures.wide)

pub loop-position-preserved : goal.loop-position-preserved
loop-position-preserved c =
    let part = part_rows (parts_in c.args.frame.now) c.args.kind in
    let i = c.loop-position.position in
    adds_both (parts_in c.args.frame.now) (pool_in c.args.frame.now) (box_in c.args.frame.now)
    (flat_map part (range_with_len 0 i)) c.items.result.now
    (flat_map part (range_with_len 0 (i + 1))) c.args.draft.now c.loop-position.draft
    c.add_rows.new.draft c.loop-position.invariant c.in_ok-add_rows.ensures.adds
    (flat_map_next part i c.items.result.now (c.items.ensures ∙ c.in_ok-names.ensures))
