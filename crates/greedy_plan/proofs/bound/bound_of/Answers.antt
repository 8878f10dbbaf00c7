use Rattle.std.proofs.Common.{◌+◌, ap, length, subst, sym, arith}
use Rattle.time_windows.specs.Subproblems.{box_in, parts_in}
use Rattle.greedy_plan.proofs.BoundFacts.{IsPartSum, cost_small, part_more}
use Rattle.greedy_plan.proofs.bound.bound_of.Goals as goal

pub plus-sum-requires-clause-more : goal.plus-sum-requires-clause-more
plus-sum-requires-clause-more c =
    cost_small (parts_in c.args.problem) (box_in c.args.problem) _ c.args.prices.now
    c.least_trip.result c.args.problem.s.now.valid c.requires.free c.least_trip.ensures.least

pub loop-number-preserved : goal.loop-number-preserved
loop-number-preserved c = (
  subst (IsPartSum (parts_in c.args.problem) (box_in c.args.problem) (c.loop-number.number + 1))
      (sym c.plus-sum.ensures)
      (part_more (parts_in c.args.problem) (box_in c.args.problem) c.loop-number.number
      c.args.prices.now c.loop-number.sum c.least_trip.result c.args.problem.s.now.valid
      c.requires.free
      (omega (
        arith,
        c.loop-number-test.true,
        c.loop-number.auto.number-end,
        ap length c.flights-number-end.ensures,
      ))
      c.loop-number.invariant.0 c.least_trip.ensures.least),
  c.least_trip.ensures.made,
)
