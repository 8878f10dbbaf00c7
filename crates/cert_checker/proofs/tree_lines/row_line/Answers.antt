use Rattle.std.proofs.Common.{subst, sym, ◌∙◌}
use Rattle.cert_checker.specs.Checks.{IfThere, IsFitDraft, IsOpenDraft}
use Rattle.cert_checker.proofs.StepFacts.{row_fits}
use Rattle.cert_checker.proofs.tree_lines.row_line.Goals as goal

pub rows_read-requires-clause-draft : goal.rows_read-requires-clause-draft
rows_read-requires-clause-draft c =
    let is_open = subst (IfThere IsOpenDraft) (sym c.take.ensures.value ∙ c.in-Some.is)
    c.requires.leaf in
    subst IsFitDraft (sym c.in_ok-with_row.ensures)
    (row_fits c.in-Some.draft c.args.multiplier is_open c.requires.value)
