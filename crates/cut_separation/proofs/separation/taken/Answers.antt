use Rattle.std.proofs.Common.{[], ◌++◌, subst, sym}
use Rattle.std.proofs.lemmas.List.{append-nil}
use Rattle.cut_separation.specs.declared.whole.WholeKind.TheVariants as whole
use Rattle.cut_separation.specs.Exceeding.{AddsFirst, most_cuts}
use Rattle.cut_separation.specs.Framed.{is_taken, parts_in}
use Rattle.cut_separation.specs.Whole.{kind_cuts}
use Rattle.cut_separation.proofs.FirstFacts.{adds_then}
use Rattle.cut_separation.proofs.TakenFacts.{taken_exactly}
use Rattle.cut_separation.proofs.separation.taken.Goals as goal

pub returns : goal.returns
returns c =
    let frame = c.args.frame.now in
    let heads = kind_cuts (parts_in frame) whole.Heads in
    let departed = kind_cuts (parts_in frame) whole.Departed in
    let first = c.add_kind.new.draft.cuts in
    let cuts = c.add_kind-2.new.draft.cuts in
    taken_exactly frame c.args.point.now c.requires.framed c.requires.denominator
    c.requires.numbers cuts
    (subst (λ start. AddsFirst most_cuts (is_taken frame) (heads ++ (departed ++ [])) start cuts)
    c.empty.ensures
    (adds_then most_cuts (is_taken frame) heads (departed ++ []) c.empty.result first cuts
    c.in_ok-add_kind.ensures
    (subst (λ more. AddsFirst most_cuts (is_taken frame) more first cuts)
    (sym (append-nil departed)) c.in_ok-add_kind-2.ensures)))
