use Rattle.std.proofs.Common.{◌+◌, ◌∙◌, ap, ap₂, sym, subst, add-one}
use Rattle.flow_types.specs.Scenario.{parts_of}
use Rattle.delay_report.specs.Delays.{AreShort, both_delays, delays_below}
use Rattle.delay_report.proofs.DelayFacts.{more_delay}
use Rattle.delay_report.proofs.delays.total_delay.Goals as goal

pub loop-flight-preserved : goal.loop-flight-preserved
loop-flight-preserved c =
    let parts = parts_of c.args.s.now in
    let flight = c.loop-flight.flight in
    record {
      so_far = c.both_delays-total.ensures
          ∙ ap₂ both_delays c.loop-flight.invariant.so_far c.delay_in.ensures.delay
          ∙ ap (λ k. delays_below k parts c.args.plan.now) (sym (add-one flight));
      short = subst (AreShort (flight + 1)) (sym c.both_delays-total.ensures)
          (more_delay flight c.loop-flight.total c.delay_in.result c.loop-flight.invariant.short
          c.delay_in.ensures.short);
    }
