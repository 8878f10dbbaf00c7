use Rattle.std.proofs.Common.{ap, arith, ◌==◌, ◌&&◌, ◌+◌, nat_le, nat_lt}
use Rattle.flow_types.specs.Counts.{one_if}
use Rattle.plan_rules.specs.Tally.{CountGrid}
use Rattle.plan_rules.proofs.GridFacts.{changes_then, changes_same, changes_none, stay_more, stay_none, stay_all}
use Rattle.plan_rules.proofs.grid.Grid.change_stay.Goals as goal

pub loop-period-init : goal.loop-period-init
loop-period-init c = record {
  so_far = changes_same c.args.change (λ k t. 0)
      (λ k t. one_if ((c.args.place == k) && nat_le c.args.from t && nat_lt t c.args.from))
      c.args.self.now c.args.self.now (λ k t k_in t_in. stay_none c.args.place c.args.from k t)
      (changes_none c.args.change c.args.self.now);
  upto = omega arith;
}

pub loop-period-preserved : goal.loop-period-preserved
loop-period-preserved c =
    let a = c.args in let now = c.loop-period.period in
    record {
      so_far = changes_same c.args.change _ (λ k t. one_if
          ((a.place == k) && nat_le a.from t && nat_lt t (now + 1)))
          a.self.now c.change.new.self
          (λ k t k_in t_in. stay_more a.place a.from k t now c.loop-period.auto.period)
          (changes_then c.args.change (λ k t. one_if ((a.place == k) && nat_le a.from t && nat_lt t
          now))
          (λ k t. one_if ((a.place == k) && (now == t))) a.self.now c.loop-period.self
          c.change.new.self c.loop-period.invariant.so_far c.change.ensures);
      upto = omega arith;
    }

pub returns : goal.returns
returns c =
    let a = c.args in let now = c.loop-period.period in
    let periods = ap (λ (grid : CountGrid). grid.periods) c.self.view_is in
    changes_same c.args.change (λ k t. one_if ((a.place == k) && nat_le a.from t && nat_lt t now))
    (λ k t. one_if ((a.place == k) && nat_le a.from t && nat_lt t a.to)) a.self.now
    c.loop-period.self
    (λ k t k_in t_in. stay_all a.place a.from k t now a.to a.self.now.periods t_in
    (omega (arith, c.min-period-end.ensures)) (omega (arith, c.min-period-end.ensures)))
    c.loop-period.invariant.so_far
