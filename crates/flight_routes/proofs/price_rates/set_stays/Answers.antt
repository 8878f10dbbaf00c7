use Rattle.std.proofs.Common.{◌≡◌, ◌∙◌, ap, pos, subst, arith}
use Rattle.std.proofs.lemmas.Bool.{cases_eq}
use Rattle.flow_types.specs.Trips.{place_at}
use Rattle.time_windows.specs.declared.access.Window.{Window}
use Rattle.flight_routes.specs.Prices.{price_in, summed}
use Rattle.flight_routes.specs.RateLists.{rates_of}
use Rattle.flight_routes.specs.Ready.{IsInSpan}
use Rattle.flight_routes.proofs.FillFacts.{stays_by}
use Rattle.flight_routes.proofs.price_rates.set_stays.Goals as goal

pub loop-node-preserved : goal.loop-node-preserved
loop-node-preserved c = (
  λ n t above below in_span.
      let span = c.loop-node.invariant.2.span in
      stays_by (λ m u. pos (summed (price_in c.args.prices.now.inside
      (place_at c.args.flight.now m)) c.args.table.now.span.lo u)) c.loop-node.node
      c.args.table.now.span c.loop-node.table c.set_paid.new.table
      (omega (arith, c.requires.day, c.args.s.now.valid.day.periods_to))
      c.set_paid.ensures.only
      (λ u within. subst (λ (s : Window). IsInSpan s u → (rates_of c.set_paid.new.table).paid
      c.loop-node.node u ≡ pos (summed (price_in c.args.prices.now.inside c.place_at.result) s.lo
      u))
      span (c.set_paid.ensures.paid u) within
      ∙ ap (λ place. pos (summed (price_in c.args.prices.now.inside place)
      c.args.table.now.span.lo u)) c.place_at.ensures)
      c.loop-node.invariant.0 n t above below in_span (cases_eq n c.loop-node.node),
  λ t in_day.
      c.set_paid.ensures.only.others 0 t (λ e. absurd (omega (arith, e, c.loop-node.auto.node)))
      in_day
      ∙ c.loop-node.invariant.1 t in_day,
  record {
    span = c.set_paid.ensures.only.span ∙ c.loop-node.invariant.2.span;
    leaves = c.set_paid.ensures.only.leaves ∙ c.loop-node.invariant.2.leaves;
    arrives = c.set_paid.ensures.only.arrives ∙ c.loop-node.invariant.2.arrives;
    clear = c.set_paid.ensures.only.clear ∙ c.loop-node.invariant.2.clear;
  },
  λ small. c.set_paid.ensures.within (c.loop-node.invariant.3 small),
)
