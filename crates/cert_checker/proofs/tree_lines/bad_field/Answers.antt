use Rattle.std.proofs.Common.{◌<◌, length, inl, inr, refl, subst, sym, ◌∙◌}
use Rattle.std.proofs.lemmas.Bool.{false≢true}
use Rattle.time_windows.specs.Splits.{IsBranching}
use Rattle.cert_checker.proofs.tree_lines.bad_field.Goals as goal

pub returns-then-not-has_node-clause-bad : goal.returns-then-not-has_node-clause-bad
returns-then-not-has_node-clause-bad c =
    inr (inr (inl (
      refl,
      λ f n closed. false≢true ((c.if-is_empty.ensures).1 (f, n, closed)),
      subst (λ flights. c.args.branch.flight < length flights) c.flights.ensures
          c.if-flight-flights.false,
      sym c.has_node.ensures ∙ c.if-not-has_node.true,
    )))

pub returns-then-not-may_branch-clause-bad : goal.returns-then-not-may_branch-clause-bad
returns-then-not-may_branch-clause-bad c =
    inr (inr (inr (
      refl,
      λ f n closed. false≢true ((c.if-is_empty.ensures).1 (f, n, closed)),
      subst (λ flights. c.args.branch.flight < length flights) c.flights.ensures
          c.if-flight-flights.false,
      sym c.has_node.ensures ∙ c.if-not-has_node.false,
      λ branching. false≢true ((c.if-not-may_branch.ensures).1
          (subst (λ access. IsBranching access c.args.branch.time) (sym c.access.ensures.access)
          branching)),
    )))

pub returns-clause-good : goal.returns-clause-good
returns-clause-good c = record {
  live = λ f n closed. false≢true ((c.if-is_empty.ensures).1 (f, n, closed));
  there = subst (λ flights. c.args.branch.flight < length flights) c.flights.ensures
      c.if-flight-flights.false;
  node_there = sym c.has_node.ensures ∙ c.if-not-has_node.false;
  branching = subst (λ access. IsBranching access c.args.branch.time) c.access.ensures.access
      ((c.if-not-may_branch.ensures).0 refl);
}
