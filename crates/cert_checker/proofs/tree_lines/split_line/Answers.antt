use Rattle.std.proofs.Common.{Err, ap, inr, subst}
use Rattle.flow_types.specs.Scenario.{parts_of}
use Rattle.time_windows.specs.Held.{box_of}
use Rattle.cert_checker.specs.Steps.{IsBadSplit}
use Rattle.cert_checker.proofs.tree_lines.split_line.Goals as goal

pub returns-in-Some-clause-step : goal.returns-in-Some-clause-step
returns-in-Some-clause-step c = inr (record {
  field = c.in-Some.field;
  bad = subst (λ held. IsBadSplit (parts_of c.args.s.now) (box_of held) c.args.branch.flight
      c.args.branch.node c.args.branch.time c.in-Some.field) c.boxes.ensures
      (c.in-Some.ensures).bad;
  is = ap Err c.in_field.ensures;
})
