use Rattle.std.proofs.Common.{◌-◌, Option, arith, subst, sym}
use Rattle.std.proofs.lemmas.Bool.{cases_eq}
use Rattle.time_windows.specs.declared.access.Window.{Window}
use Rattle.time_windows.specs.Boxes.{IsInWindow, IsProper}
use Rattle.flight_routes.specs.Ready.{row_of}
use Rattle.flight_routes.proofs.FillFacts.{in_span_more}
use Rattle.flight_routes.proofs.accesses.span_of.Goals as goal

pub loop-node-preserved : goal.loop-node-preserved
loop-node-preserved c = (
  λ n t below inside.
      in_span_more (row_of c.args.accesses.now) c.loop-node.node c.loop-node.span
      c.with_window-span.result c.with_window-span.ensures.span
      (λ u within. c.with_window-span.ensures.window u
      (subst (λ (w : Option Window). IsInWindow w u) (sym c.window_at.ensures) within))
      c.loop-node.invariant.0 n t below inside (cases_eq n c.loop-node.node),
  let last = c.with_window-span.ensures.day (c.args.periods - 1)
      (omega (arith, c.loop-node.invariant.1))
      (λ t inside.
      let day = c.requires.day c.loop-node.node t
      (subst (λ (w : Option Window). IsInWindow w t) c.window_at.ensures inside) in
      omega (arith, day))
      (subst IsProper (sym c.window_at.ensures) (c.requires.proper c.loop-node.node)) in
      omega (arith, last, c.requires.some),
)
