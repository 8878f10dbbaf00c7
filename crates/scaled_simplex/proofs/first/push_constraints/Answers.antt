use Rattle.std.proofs.Common.{◌++◌, ◌∷◌, [], List, ap, ap₂, arith, length, subst, sym, ◌∙◌}
use Rattle.std.proofs.lemmas.Result.{err_from_is_err_and}
use Rattle.row_arena.specs.declared.entry.Entry.{Entry}
use Rattle.row_arena.specs.Rows.{IsRow}
use Rattle.scaled_simplex.proofs.FirstBoardFacts.{constraint_is_row, constraints_wide, rows_before, rows_pushed}
use Rattle.scaled_simplex.proofs.first.push_constraints.Goals as goal

pub push_row-requires-clause-place : goal.push_row-requires-clause-place
push_row-requires-clause-place c =
    let count = ap length c.loop-k.invariant.rows
    ∙ rows_before c.args.program.now c.loop-k.k (omega arith) in
    omega (arith, count)

pub push_row-requires-clause-valid : goal.push_row-requires-clause-valid
push_row-requires-clause-valid c =
    let constraint = c.index-constraints-k.result in
    let is = rw c.constraints.ensures at c.index-constraints-k.is in
    subst IsRow (sym (c.deref.ensures.value ∙ c.in_ok-write_constraint.ensures))
    (constraint_is_row c.args.program.now c.loop-k.k constraint (omega arith) is
    c.requires.valid)

pub returns-in_err-push_row-clause-wide : goal.returns-in_err-push_row-clause-wide
returns-in_err-push_row-clause-wide c =
    let constraint = c.index-constraints-k.result in
    let is = rw c.constraints.ensures at c.index-constraints-k.is in
    let p = err_from_is_err_and c.from_residual-in_err-push_row.result
    c.from_residual-in_err-push_row.ensures.1 in
    rw (p.1, p.2, ← c.loop-k.invariant.cells)
    (constraints_wide c.args.program.now c.loop-k.k constraint (omega arith) is
    c.loop-k.arena.cells c.loop-k.arena.rows c.deref.result.now
    c.loop-k.invariant.rows (c.deref.ensures.value ∙ c.in_ok-write_constraint.ensures)
    c.in_err-push_row.ensures.wide.1)

pub loop-k-preserved : goal.loop-k-preserved
loop-k-preserved c =
    let constraint = c.index-constraints-k.result in
    let is = rw c.constraints.ensures at c.index-constraints-k.is in
    let ok = c.in_ok-push_row.ensures.ok in
    record {
      rows = ap (λ a. a.rows) ok
          ∙ ap₂ (λ (rows : List (List Entry)) (row : List Entry). rows ++ row ∷ [])
          c.loop-k.invariant.rows (c.deref.ensures.value ∙ c.in_ok-write_constraint.ensures)
          ∙ rows_pushed c.args.program.now c.loop-k.k constraint (omega arith) is;
      places = ap (λ a. a.most_rows) ok ∙ c.loop-k.invariant.places;
      cells = ap (λ a. a.cells) ok ∙ c.loop-k.invariant.cells;
    }
