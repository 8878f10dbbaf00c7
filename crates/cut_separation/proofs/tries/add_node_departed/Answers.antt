use Rattle.std.proofs.Common.{[], if◌then◌else◌, subst, sym, arith}
use Rattle.std.proofs.lemmas.Bool.{le-ltb}
use Rattle.cut_rows.specs.declared.names.CutName.TheVariants.{Departed}
use Rattle.cut_separation.specs.Exceeding.{AddsFirst, most_cuts}
use Rattle.cut_separation.specs.Framed.{is_taken, parts_in}
use Rattle.cut_separation.specs.Whole.{over_day}
use Rattle.cut_separation.proofs.FirstFacts.{adds_none}
use Rattle.cut_separation.proofs.tries.add_node_departed.Goals as goal

pub returns-else-node-gt0 : goal.returns-else-node-gt0
returns-else-node-gt0 c =
    subst (λ later. AddsFirst most_cuts (is_taken c.args.frame.now) (if later
    then over_day (parts_in c.args.frame.now) (Departed c.args.flight c.args.node) else [])
    c.args.draft.now.cuts c.args.draft.now.cuts) (sym (le-ltb 0 c.args.node (omega arith)))
    (adds_none most_cuts (is_taken c.args.frame.now) c.args.draft.now.cuts c.requires.few)
