use Rattle.std.proofs.Common.{◌+◌, get_or, sum_by, take}
use Rattle.std.proofs.lemmas.Result.{err_from_is_err_and}
use Rattle.scaled_simplex.specs.Program.{most_indices}
use Rattle.presolve.specs.Frames.{box_in, parts_in, pool_in}
use Rattle.presolve.specs.Counting.{row_entries}
use Rattle.presolve.proofs.CountFacts.{counted_both, sum_taken, sum_within, wide_both}
use Rattle.presolve.proofs.RowFacts.{rows_more, rows_room}
use Rattle.presolve.proofs.rows.add_rows.Goals as goal

pub add_row-requires-clause-few : goal.add_row-requires-clause-few
add_row-requires-clause-few c =
    rows_room (parts_in c.args.frame.now) (pool_in c.args.frame.now) (box_in c.args.frame.now)
    c.args.names.now c.loop-name.name-index c.args.draft.now.program c.loop-name.draft.program
    c.args.draft.now.kept c.loop-name.draft.kept most_indices c.loop-name-test.true
    c.loop-name.invariant.rows c.requires.few

pub returns-in_err-add_row-clause-wide : goal.returns-in_err-add_row-clause-wide
returns-in_err-add_row-clause-wide c =
    let part = row_entries (parts_in c.args.frame.now) (pool_in c.args.frame.now)
    (box_in c.args.frame.now) in
    let names = c.args.names.now in
    let i = c.loop-name.name-index in
    let p = err_from_is_err_and c.from_residual.result c.from_residual.ensures.1 in
    rw (p.1, p.2)
    (wide_both (sum_by part (take i names)) (part (get_or names i _)) (sum_by part names)
    c.args.draft.now.tally c.loop-name.draft.tally c.in_err-add_row.field-0.0
    c.loop-name.invariant.counted (sum_within part names i _ c.loop-name-test.true)
    c.in_err-add_row.ensures.wide)

pub loop-name-preserved : goal.loop-name-preserved
loop-name-preserved c =
    let part = row_entries (parts_in c.args.frame.now) (pool_in c.args.frame.now)
    (box_in c.args.frame.now) in
    let names = c.args.names.now in
    let i = c.loop-name.name-index in
    record {
      rows = rows_more (parts_in c.args.frame.now) (pool_in c.args.frame.now)
          (box_in c.args.frame.now) names i _ c.args.draft.now.program
          c.loop-name.draft.program c.add_row.new.draft.program c.args.draft.now.kept
          c.loop-name.draft.kept c.add_row.new.draft.kept
          c.loop-name-test.true c.loop-name.invariant.rows c.in_ok-add_row.ensures.row;
      counted = counted_both (sum_by part (take i names)) (part (get_or names i _))
          (sum_by part (take (i + 1) names)) c.args.draft.now.tally c.loop-name.draft.tally
          c.add_row.new.draft.tally c.loop-name.invariant.counted
          c.in_ok-add_row.ensures.counted (sum_taken part names i _ c.loop-name-test.true);
    }
