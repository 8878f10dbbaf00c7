use Rattle.std.proofs.Common.{◌∙◌, ◌^◌, ◌<◌, sym, subst, unsigned_abs, arith}
use Rattle.cut_rows.specs.Relaxations.{box_under, parts_under}
use Rattle.cut_rows.proofs.RelaxationFacts.{ready_under}
use Rattle.dual_sums.specs.Dual.{IsDualValue}
use Rattle.dual_sums.proofs.SumsFacts.{whole_near}
use Rattle.dual_sums.proofs.ValueFacts.{leaf_near, leaf_value}
use Rattle.dual_sums.proofs.dual.dual_value.Goals as goal

pub returns-in-None-clause-value : goal.returns-in-None-clause-value
returns-in-None-clause-value c =
    let relaxation = c.args.relaxation in
    let parts = parts_under relaxation in
    let pool = relaxation.pool.now in
    let rows = c.args.rows.now in
    let added = c.in-None.ensures.rows in
    let near = leaf_near parts pool relaxation.problem.s.now.valid relaxation.table.now.columns
    relaxation.problem.boxes.now (ready_under relaxation) c.args.weight rows c.requires.range
    _ _ _ _ c.clear.ensures c.add_cost.ensures added in
    let value = leaf_value parts pool relaxation.problem.s.now.valid relaxation.table.now.columns
    relaxation.problem.boxes.now (ready_under relaxation) c.args.weight rows c.requires.range
    _ _ _ _ c.clear.ensures c.add_cost.ensures added in
    let whole = whole_near c.least.result
    (subst (λ z. unsigned_abs z < 2 ^ 126) (sym c.least.ensures) (omega (arith, near))) in (
      added.known,
      subst (IsDualValue parts pool (box_under relaxation) c.args.weight rows)
          (sym c.least.ensures ∙ sym whole) value,
    )

pub returns-in-None-clause-near : goal.returns-in-None-clause-near
returns-in-None-clause-near c =
    let relaxation = c.args.relaxation in
    let near = leaf_near (parts_under relaxation) relaxation.pool.now
    relaxation.problem.s.now.valid relaxation.table.now.columns relaxation.problem.boxes.now
    (ready_under relaxation) c.args.weight c.args.rows.now c.requires.range _ _ _ _
    c.clear.ensures c.add_cost.ensures c.in-None.ensures.rows in
    let here = subst (λ z. unsigned_abs z < 2 ^ 115) (sym c.least.ensures) near in
    subst (λ z. unsigned_abs z < 2 ^ 115)
    (sym (whole_near c.least.result (omega (arith, here)))) here
