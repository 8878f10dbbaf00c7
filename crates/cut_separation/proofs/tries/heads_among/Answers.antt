use Rattle.std.proofs.Common.{◌++◌, ◌∷◌, [], ◌∙◌, ap, sym, true, false}
use Rattle.cut_rows.specs.Cuts.{is_head}
use Rattle.cut_separation.proofs.FirstFacts.{filter_next}
use Rattle.cut_separation.proofs.tries.heads_among.Goals as goal
use Rattle.cut_separation.proofs.tries.heads_among.Goals.{then-is_head+in_ok-add, else-is_head}

pub loop-head-preserved : goal.loop-head-preserved
loop-head-preserved c =
    let test = is_head c.args.legs.now c.args.node in
    elim c.if-is_head.branch [
      | then-is_head+in_ok-add w ↦
          w.heads-is ∙ w.in_ok-add.ensures.ok
          ∙ ap (λ heads. heads ++ c.loop-head.head ∷ []) c.loop-head.invariant
          ∙ sym (filter_next test c.loop-head.head true
          (sym c.is_head.ensures ∙ w.if-is_head.true))
      | else-is_head w ↦
          w.heads-is ∙ c.loop-head.invariant
          ∙ sym (filter_next test c.loop-head.head false
          (sym c.is_head.ensures ∙ w.if-is_head.false))
    ]
