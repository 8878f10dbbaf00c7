use Rattle.std.proofs.Common.{arith, refl}
use Rattle.std.proofs.lemmas.Nat.{mul-add-lt}
use Rattle.plan_rules.proofs.GridFacts.{one_changed}
use Rattle.plan_rules.proofs.grid.Grid.change.Goals as goal

pub returns-then-period-periods : goal.returns-then-period-periods
returns-then-period-periods c =
    let s = c.self.inside in
    let inside = mul-add-lt c.args.place s.periods c.args.period s.places (omega arith)
    (omega arith) in
    rw (← c.self.view_is) (record {
      places = refl;
      periods = refl;
      each = λ k t k_in t_in fits.
          rw (c.from-then-period-periods.ensures, c.from.ensures)
          (one_changed c.args.change s.counts.items s.periods c.args.place c.args.period k t
          c.index.result.now c.changed.result (omega arith) t_in
          (omega (arith, c.self.invariant, s.counts.ok.0))
          (rw (c.from-then-period-periods.ensures, c.from.ensures) at c.index.ensures)
          c.changed.ensures fits);
    })
