use Rattle.std.proofs.Common.{refl, arith}
use Rattle.std.proofs.lemmas.Bool.{false≢true}
use Rattle.flow_types.proofs.PairFacts.{pairs_more, pairs_all, pairs_before}
use Rattle.flow_types.proofs.differ.all_differ.Goals as goal

pub returns-then-not-all_differ_from : goal.returns-then-not-all_differ_from
returns-then-not-all_differ_from g c =
    let before = pairs_before g.T.Differ.is_other c.args.items.now
    c.loop-at.at c.index-items-at.result (omega arith) c.index-items-at.is in
    (λ no. absurd (false≢true no), λ pairs. c.if-not-all_differ_from.ensures.1 (before pairs))

pub loop-at-preserved : goal.loop-at-preserved
loop-at-preserved g c =
    pairs_more g.T.Differ.is_other c.args.items.now c.loop-at.at c.index-items-at.result
    (omega arith) c.index-items-at.is
    c.loop-at.invariant (c.if-not-all_differ_from.ensures.0 refl)

pub returns : goal.returns
returns g c = (
  λ yes. pairs_all g.T.Differ.is_other c.args.items.now c.loop-at.at (omega arith)
      c.loop-at.invariant,
  λ pairs. refl,
)
