use Rattle.std.proofs.Common.{length, ap, subst, arith}
use Rattle.cut_separation.specs.declared.frame.Draft.{Draft}
use Rattle.cut_separation.specs.Exceeding.{AddsFirst, most_cuts}
use Rattle.cut_separation.specs.Framed.{is_taken, parts_in}
use Rattle.cut_separation.specs.Whole.{heads_cuts}
use Rattle.cut_separation.proofs.CutSizeFacts.{heads_of_few}
use Rattle.cut_separation.proofs.TakenFacts.{heads_taken, no_heads_taken}
use Rattle.cut_separation.proofs.tries.add_node_heads.Goals as goal
use Rattle.cut_separation.proofs.tries.add_node_heads.Goals.{then-items-gt0+in_ok-add_heads, else-items-gt0}

pub add_heads-requires-clause-heads : goal.add_heads-requires-clause-heads
add_heads-requires-clause-heads c =
    omega (
      arith,
      ap length c.items-then-items-gt0.ensures,
      ap length c.in_ok-heads.ensures,
      heads_of_few (parts_in c.args.frame.now) c.args.flight c.args.node
          c.args.frame.now.s.now.valid,
    )

pub returns : goal.returns
returns c =
    let heads = c.in_ok-heads.heads in
    let test = is_taken c.args.frame.now in
    let parts = parts_in c.args.frame.now in
    let old = c.args.draft.now.cuts in
    subst (λ hs. AddsFirst most_cuts test (heads_cuts parts c.args.flight c.args.node hs) old
    c.if-items-gt0.draft.cuts) c.in_ok-heads.ensures
    (elim c.if-items-gt0.branch as (λ _. AddsFirst most_cuts test
    (heads_cuts parts c.args.flight c.args.node heads) old c.if-items-gt0.draft.cuts) [
      | then-items-gt0+in_ok-add_heads w ↦
          heads_taken parts test c.args.flight c.args.node heads
          w.items-then-items-gt0.result.now old w.add_heads.new.draft.cuts c.if-items-gt0.draft.cuts
          w.items-then-items-gt0.ensures
          (omega (arith, ap length c.items.ensures, w.if-items-gt0.true)) w.in_ok-add_heads.ensures
          (ap (λ (draft : Draft). draft.cuts) w.draft-is)
      | else-items-gt0 w ↦
          no_heads_taken parts test c.args.flight c.args.node heads old c.if-items-gt0.draft.cuts
          (omega (arith, ap length c.items.ensures, w.if-items-gt0.false)) c.requires.few
          (ap (λ (draft : Draft). draft.cuts) w.draft-is)
    ])
