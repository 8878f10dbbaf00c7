use Rattle.std.proofs.Common.{◌∙◌, subst, arith}
use Rattle.std.proofs.lemmas.Bool.{cases_eq}
use Rattle.flow_types.specs.Scenario.{parts_of}
use Rattle.flow_types.specs.Trips.{place_at}
use Rattle.time_windows.specs.declared.access.Window.{Window}
use Rattle.flight_routes.specs.FitTimes.{IsClearAt, IsFirstFull}
use Rattle.flight_routes.specs.RateLists.{rates_of}
use Rattle.flight_routes.specs.Ready.{IsInSpan}
use Rattle.flight_routes.proofs.FillFacts.{clear_by, fit_table_more, full_by}
use Rattle.flight_routes.proofs.fit_rates.set_all_full.Goals as goal

pub loop-node-preserved : goal.loop-node-preserved
loop-node-preserved c =
    let parts = parts_of c.args.s.now in
    let span = c.loop-node.invariant.4 in (
      λ n t above below in_span.
          full_by parts c.args.loads.now (place_at c.args.flight.now) c.loop-node.node
          c.loop-node.table c.set_full.new.table c.args.table.now.span
          (omega (arith, c.requires.day, c.args.s.now.valid.day.periods_to))
          c.set_full.ensures.only
          (λ u within. subst (λ place. IsFirstFull parts c.args.loads.now place
          c.args.table.now.span.hi u
          ((rates_of c.set_full.new.table).clear c.loop-node.node u)) c.place_at.ensures
          (subst (λ (s : Window). IsInSpan s u → IsFirstFull parts c.args.loads.now
          c.place_at.result s.hi u ((rates_of c.set_full.new.table).clear c.loop-node.node u)) span
          (c.set_full.ensures.full u) within))
          c.loop-node.invariant.0 n t above below in_span (cases_eq n c.loop-node.node),
      fit_table_more c.loop-node.node c.loop-node.table c.set_full.new.table
          (omega (arith, c.loop-node.auto.node)) c.set_full.ensures.only c.loop-node.invariant.1,
      c.set_full.ensures.only.leaves ∙ c.loop-node.invariant.2,
      c.set_full.ensures.only.arrives ∙ c.loop-node.invariant.3,
      c.set_full.ensures.only.span ∙ span,
      λ n above below.
          clear_by c.loop-node.node c.loop-node.table c.set_full.new.table c.args.table.now.span
          (omega (arith, c.requires.day, c.args.s.now.valid.day.periods_to))
          c.set_full.ensures.only
          (subst (λ (s : Window). IsClearAt s c.loop-node.node (rates_of c.set_full.new.table)) span
          c.set_full.ensures.clear)
          c.loop-node.invariant.5 n above below (cases_eq n c.loop-node.node),
    )
