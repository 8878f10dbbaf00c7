use Rattle.std.proofs.Common.{◌≡◌, ◌∙◌, map, pos, refl, sym, subst, unsigned_abs}
use Rattle.std.proofs.lemmas.Result.{err_from_is_err_and}
use Rattle.cut_rows.specs.Relaxations.{box_under, parts_under}
use Rattle.cut_rows.proofs.RelaxationFacts.{tight_under}
use Rattle.presolve.specs.Leaf.{IsBelowLeaf}
use Rattle.presolve.specs.Relaxed.{program_of}
use Rattle.presolve.proofs.CountFacts.{columns_wide, rows_wide}
use Rattle.presolve.proofs.ProgramFacts.{program_is}
use Rattle.presolve.proofs.PromiseFacts.{promised}
use Rattle.presolve.proofs.presolved.tallied.Goals as goal

pub returns-in_err-columns-clause-wide : goal.returns-in_err-columns-clause-wide
returns-in_err-columns-clause-wide c =
    let relaxation = c.args.relaxation in
    let p = err_from_is_err_and c.from_residual.result c.from_residual.ensures.1 in
    rw (p.1, p.2)
    (columns_wide (parts_under relaxation) relaxation.pool.now (box_under relaxation) c.args.cells
    c.new-tally.result c.in_err-columns.field-0.0 c.new-tally.ensures c.in_err-columns.ensures.wide)

pub returns-in_err-add_all-clause-wide : goal.returns-in_err-add_all-clause-wide
returns-in_err-add_all-clause-wide c =
    let relaxation = c.args.relaxation in
    let p = err_from_is_err_and c.from_residual-in_err-add_all.result
    c.from_residual-in_err-add_all.ensures.1 in
    rw (p.1, p.2)
    (rows_wide (parts_under relaxation) relaxation.pool.now (box_under relaxation) c.args.cells
    c.new-tally.result c.in_err-add_all.field-0.0 c.new-tally.ensures c.columns_of.new.tally
    c.in_ok-columns.ensures.counted c.in_err-add_all.ensures.wide)

pub returns-clause-presolved : goal.returns-clause-presolved
returns-clause-presolved c =
    let relaxation = c.args.relaxation in
    let parts = parts_under relaxation in
    let box = box_under relaxation in
    let pool = relaxation.pool.now in
    let base = c.in_ok-numbers.field-0 in
    let whole : c.add_all.new.draft.program ≡ program_of parts pool box =
    program_is parts box base.costs.values.items base.costs.constant c.in_ok-numbers.ensures.costs
    pool (map (λ value. pos (unsigned_abs value)) base.costs.values.items)
    c.in_ok-begun.field-0 c.add_all.new.draft.program refl c.in_ok-begun.ensures
    c.in_ok-add_all.ensures.program in
    record {
      program = whole;
      columns = c.in_ok-columns.ensures.columns;
      kept = c.in_ok-add_all.ensures.kept;
      flipped = c.from_vec.ensures ∙ c.in_ok-numbers.ensures.flips;
      promise =
          subst (λ p. IsBelowLeaf parts pool box p c.add_all.new.draft.kept) (sym whole)
          (subst (λ names. IsBelowLeaf parts pool box (program_of parts pool box) names)
          (sym c.in_ok-add_all.ensures.kept)
          (promised parts pool box relaxation.problem.s.now.valid c.requires.pool
          relaxation.problem.made.inside (tight_under relaxation)));
    }
