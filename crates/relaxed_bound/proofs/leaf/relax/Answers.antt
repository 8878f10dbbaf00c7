use Rattle.std.proofs.Common.{rules}
use Rattle.cut_rows.specs.Relaxations.{box_under, parts_under}
use Rattle.cut_rows.proofs.RelaxationFacts.{tight_under}
use Rattle.relaxed_bound.proofs.BareFacts.{bare_is}
use Rattle.relaxed_bound.proofs.PointFacts.{point_is, point_told}
use Rattle.relaxed_bound.proofs.ToldFacts.{run_has, run_licensed}
use Rattle.relaxed_bound.proofs.leaf.relax.Goals as goal

pub returns-in_ok-leaf-in-Ok-clause-some : goal.returns-in_ok-leaf-in-Ok-clause-some
returns-in_ok-leaf-in-Ok-clause-some c =
    let relaxation = c.args.relaxation in
    run_has (parts_under relaxation) relaxation.pool.now (box_under relaxation) c.in-Ok.presolved
    c.in-Ok.ensures.presolved c.args.limits c.args.cutoff c.in_ok-leaf-in-Ok.field-0.leaf
    c.in_ok-leaf-in-Ok.ensures.leaf c.requires.pool

pub returns-in_ok-leaf-in-Ok-clause-point : goal.returns-in_ok-leaf-in-Ok-clause-point
returns-in_ok-leaf-in-Ok-clause-point c =
    let relaxation = c.args.relaxation in
    point_is (parts_under relaxation) relaxation.pool.now (box_under relaxation) c.in-Ok.presolved
    c.in-Ok.ensures.presolved c.args.limits c.args.cutoff c.in_ok-leaf-in-Ok.field-0.fractions
    c.point_of-point.result c.in_ok-leaf-in-Ok.ensures.fractions c.point_of-point.ensures
    relaxation.problem.s.now.valid c.requires.pool relaxation.problem.made.inside
    (tight_under relaxation)

pub returns-in_ok-leaf-in-Ok-clause-told : goal.returns-in_ok-leaf-in-Ok-clause-told
returns-in_ok-leaf-in-Ok-clause-told c =
    let relaxation = c.args.relaxation in
    point_told (parts_under relaxation) relaxation.pool.now (box_under relaxation)
    c.in-Ok.presolved c.in-Ok.ensures.presolved c.args.limits c.args.cutoff
    c.in_ok-leaf-in-Ok.field-0.fractions c.point_of-point.result
    c.in_ok-leaf-in-Ok.ensures.fractions c.point_of-point.ensures

pub returns-in_ok-leaf-in-Ok-clause-licensed : goal.returns-in_ok-leaf-in-Ok-clause-licensed
returns-in_ok-leaf-in-Ok-clause-licensed c =
    let relaxation = c.args.relaxation in
    run_licensed (parts_under relaxation) relaxation.pool.now (box_under relaxation)
    c.in-Ok.presolved c.in-Ok.ensures.presolved c.args.limits c.args.cutoff
    c.in_ok-leaf-in-Ok.field-0.leaf c.in_ok-leaf-in-Ok.ensures.leaf
    relaxation.problem.s.now.valid c.requires.pool relaxation.problem.made.inside
    (tight_under relaxation)

pub returns-in-Err-Wide-clause-leaf : goal.returns-in-Err-Wide-clause-leaf
returns-in-Err-Wide-clause-leaf c =
    search (
      rules,
      bare_is (parts_under c.args.relaxation) c.args.relaxation.pool.now
          (box_under c.args.relaxation) c.args.limits c.args.cutoff
          c.bare_leaf.result c.bare_leaf.ensures,
    )
