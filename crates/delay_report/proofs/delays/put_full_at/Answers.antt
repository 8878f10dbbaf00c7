use Rattle.std.proofs.Common.{refl}
use Rattle.flow_types.specs.Scenario.{parts_of}
use Rattle.plan_rules.specs.Loads.{load_at}
use Rattle.delay_report.specs.Delays.{full_line}
use Rattle.delay_report.proofs.DelayFacts.{line_put, more_full, no_line}
use Rattle.delay_report.proofs.delays.put_full_at.Goals.{then-is_full+in_ok-put_full, else-is_full}
use Rattle.delay_report.proofs.delays.put_full_at.Goals as goal

pub loop-period-preserved : goal.loop-period-preserved
loop-period-preserved c =
    let parts = parts_of c.args.s.now in
    let kind = c.args.of.kind in
    let line = full_line parts c.args.moments.now kind c.args.of.place c.loop-period.period in
    more_full parts c.args.moments.now kind (load_at c.args.loads.now kind) c.args.of.place
    c.loop-period.period c.is_full.result c.args.out.now.items c.loop-period.out.items
    c.if-is_full.out.items c.loop-period.invariant c.is_full.ensures
    (elim c.if-is_full.branch [
      | then-is_full+in_ok-put_full w ↦ rw w.out-is
          (line_put c.is_full.result line c.loop-period.out.items w.put_full.new.out.items
          w.if-is_full.true w.in_ok-put_full.ensures)
      | else-is_full w ↦ rw w.out-is
          (no_line c.is_full.result line c.loop-period.out.items c.loop-period.out.items
          w.if-is_full.false refl)
    ])
