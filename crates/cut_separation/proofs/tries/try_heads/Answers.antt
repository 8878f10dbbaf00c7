use Rattle.std.proofs.Common.{[], ◌∷◌, ◌++◌, ◌∙◌, length, true, false, ap, arith}
use Rattle.cut_rows.specs.declared.names.CutName.TheVariants.{Heads}
use Rattle.cut_separation.specs.Exceeding.{most_cuts}
use Rattle.cut_separation.specs.Framed.{is_taken}
use Rattle.cut_separation.proofs.FirstFacts.{adds_full, adds_no, adds_one}
use Rattle.cut_separation.proofs.TakenFacts.{told_taken}
use Rattle.cut_separation.proofs.tries.try_heads.Goals as goal

pub returns-then-items-eq-MOST_CUTS : goal.returns-then-items-eq-MOST_CUTS
returns-then-items-eq-MOST_CUTS c =
    adds_full most_cuts (is_taken c.args.frame.now)
    (Heads c.args.flight c.args.node c.args.time c.args.heads.now ∷ []) c.args.draft.now.cuts
    (omega (arith, ap length c.items.ensures, c.if-items-eq-MOST_CUTS.true))

pub returns-in_ok-add : goal.returns-in_ok-add
returns-in_ok-add c =
    let cut = Heads c.args.flight c.args.node c.args.time c.args.heads.now in
    adds_one most_cuts (is_taken c.args.frame.now) cut c.args.draft.now.cuts c.add.new.self
    (omega (arith, ap length c.items.ensures, c.if-items-eq-MOST_CUTS.false, c.requires.few))
    (told_taken c.args.frame.now cut c.hold_heads.new.buffer c.is_exceeded.result true
    c.hold_heads.ensures c.is_exceeded.ensures c.if-is_exceeded.true)
    (c.in_ok-add.ensures.ok
    ∙ ap (λ heads. c.args.draft.now.cuts ++ Heads c.args.flight c.args.node c.args.time heads ∷ [])
    c.in_ok-copy_of.ensures)

pub returns-else-is_exceeded : goal.returns-else-is_exceeded
returns-else-is_exceeded c =
    let cut = Heads c.args.flight c.args.node c.args.time c.args.heads.now in
    adds_no most_cuts (is_taken c.args.frame.now) cut c.args.draft.now.cuts c.requires.few
    (told_taken c.args.frame.now cut c.hold_heads.new.buffer c.is_exceeded.result false
    c.hold_heads.ensures c.is_exceeded.ensures c.if-is_exceeded.false)
