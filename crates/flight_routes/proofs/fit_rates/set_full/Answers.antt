use Rattle.std.proofs.Common.{◌+◌, ◌-◌, ◌≡◌, ap, arith, subst}
use Rattle.flow_types.specs.Scenario.{parts_of}
use Rattle.time_windows.specs.declared.access.Window.{Window}
use Rattle.flight_routes.specs.FitTimes.{IsFirstFull}
use Rattle.flight_routes.proofs.FillFacts.{clear_again, first_is, full_more}
use Rattle.flight_routes.proofs.fit_rates.set_full.Goals as goal

pub loop-time-preserved : goal.loop-time-preserved
loop-time-preserved c =
    let parts = parts_of c.args.s.now in
    let same : c.loop-time.time ≡ c.loop-time.time - 1 + 1 = omega arith in
    let span = c.span-span.result in (
      omega (arith, c.loop-time.invariant.0),
      full_more parts c.args.loads.now c.args.place c.args.node span c.loop-time.time
          c.loop-time.first c.first_full-first.result c.loop-time.table c.set_clear.new.self
          (omega arith) c.set_clear.ensures.here c.set_clear.ensures.others
          (first_is parts c.args.loads.now c.args.place span.hi (c.loop-time.time - 1)
          c.loop-time.first c.first_full-first.result c.row-counts.result.now
          c.capacities_of-capacities.result.now
          (c.row-counts.ensures.loads (c.loop-time.time - 1) (omega (
            arith,
            c.requires.loads.inside.long,
            c.loop-time.invariant.0,
            c.requires.day,
            ap (λ (w : Window). w.hi) c.span-span.ensures.span,
          )))
          c.capacities_of-capacities.ensures c.first_full-first.ensures.full
          (subst (λ t. IsFirstFull parts c.args.loads.now c.args.place span.hi t c.loop-time.first)
          same c.loop-time.invariant.1.now))
          c.loop-time.invariant.1 c.first_full-first.ensures.choice,
      clear_again c.args.node c.args.table.now c.loop-time.table c.set_clear.new.self
          c.loop-time.invariant.2 c.set_clear.ensures.only,
    )
