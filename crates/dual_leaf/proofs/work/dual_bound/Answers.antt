use Rattle.std.proofs.Common.{inl, subst, arith}
use Rattle.cut_rows.specs.Relaxations.{box_under, parts_under}
use Rattle.dual_leaf.specs.Leaf.{IsAnswerOf}
use Rattle.dual_leaf.proofs.SoundFacts.{if_sound}
use Rattle.dual_sums.proofs.SumsFacts.{whole_near}
use Rattle.dual_leaf.proofs.work.dual_bound.Goals as goal

pub returns-in-Ok-clause-bound : goal.returns-in-Ok-clause-bound
returns-in-Ok-clause-bound c = inl (record {
  live = c.in_default.ensures;
  known = c.in-Ok.ensures.value.0;
  value = c.in-Ok.value;
  least = c.in-Ok.ensures.value.1;
  answered = subst (λ z. IsAnswerOf c.args.weight z c.answer_of.result)
      (whole_near c.in-Ok.value (let near = c.in-Ok.ensures.near in omega (arith, near)))
      c.answer_of.ensures.answered;
})

pub returns-in-Ok-clause-sound : goal.returns-in-Ok-clause-sound
returns-in-Ok-clause-sound c =
    let problem = c.args.relaxation.problem in
    if_sound (parts_under c.args.relaxation) c.args.relaxation.pool.now
    (box_under c.args.relaxation) c.args.weight c.args.rows.now
    c.answer_of.result problem.s.now.valid problem.made.inside c.in_default.ensures
    c.in-Ok.ensures.value.0 c.in-Ok.value c.in-Ok.ensures.value.1
    (subst (λ z. IsAnswerOf c.args.weight z c.answer_of.result)
    (whole_near c.in-Ok.value (let near = c.in-Ok.ensures.near in omega (arith, near)))
    c.answer_of.ensures.answered)
