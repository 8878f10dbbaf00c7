use Rattle.std.proofs.Common.{◌≡◌, map, subst, ap, arith}
use Rattle.std.specs.List.{range_with_len}
use Rattle.cut_rows.specs.declared.names.CutName.TheVariants.{Heads}
use Rattle.cut_separation.specs.Exceeding.{AddsFirst, most_cuts}
use Rattle.cut_separation.specs.Framed.{is_taken, parts_in}
use Rattle.cut_separation.proofs.FirstFacts.{adds_named, adds_none}
use Rattle.cut_separation.proofs.tries.add_heads.Goals as goal

pub loop-time-init : goal.loop-time-init
loop-time-init c =
    adds_none most_cuts (is_taken c.args.frame.now) c.args.draft.now.cuts c.requires.few

pub loop-time-preserved : goal.loop-time-preserved
loop-time-preserved c =
    adds_named most_cuts (is_taken c.args.frame.now)
    (λ t. Heads c.args.flight c.args.node t c.args.heads.now) c.loop-time.time
    c.args.draft.now.cuts c.loop-time.draft.cuts c.try_heads.new.draft.cuts c.loop-time.invariant
    c.in_ok-try_heads.ensures

pub returns : goal.returns
returns c =
    let all : c.loop-time.time ≡ (parts_in c.args.frame.now).day.periods =
    omega (arith, ap (λ day. day.periods) c.day-time-end.ensures) in
    subst (λ n. AddsFirst most_cuts (is_taken c.args.frame.now) (map
    (λ t. Heads c.args.flight c.args.node t c.args.heads.now)
    (range_with_len 0 n)) c.args.draft.now.cuts c.loop-time.draft.cuts) all
    c.loop-time.invariant
