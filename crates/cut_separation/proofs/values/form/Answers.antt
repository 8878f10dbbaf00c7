use Rattle.std.proofs.Common.{arith}
use Rattle.std.proofs.lemmas.Int.{ints}
use Rattle.cut_separation.specs.Framed.{value_in}
use Rattle.cut_separation.proofs.ValueFacts.{more_summed, some_term}
use Rattle.cut_separation.proofs.values.form.Goals as goal

pub loop-term-preserved : goal.loop-term-preserved
loop-term-preserved c =
    let more = more_summed (value_in c.args.frame.now) c.args.terms.now c.loop-term.term-index
    some_term c.loop-term.sum c.share.result c.plus-sum.result (omega arith) (record {
      is = omega (arith, ints, c.loop-term.invariant.is, c.loop-term.sum-is);
      near = omega (arith, ints, c.loop-term.invariant.near, c.loop-term.sum-is);
    }) c.share.ensures.value c.share.ensures.small
    (omega (arith, ints, c.plus-sum.ensures, c.loop-term.sum-is)) in
    record {
      is = omega (arith, ints, more.is);
      near = omega (arith, ints, more.near);
    }
