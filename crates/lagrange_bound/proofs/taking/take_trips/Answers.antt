use Rattle.std.proofs.Common.{◌+◌, ◌^◌, ap, length, sym, subst, arith}
use Rattle.exact_sums.proofs.NearFacts.{near_wider}
use Rattle.lagrange_bound.specs.Taking.{IsTakenSum}
use Rattle.time_windows.specs.Subproblems.{box_in, parts_in}
use Rattle.lagrange_bound.proofs.NearFacts.{cost_near, sum_more, sum_near, sum_none}
use Rattle.lagrange_bound.proofs.taking.take_trips.Goals as goal

pub loop-number-init : goal.loop-number-init
loop-number-init c = (
  sum_none (parts_in c.args.problem) (box_in c.args.problem) c.args.prices.now c.args.loads.now
      c.requires.loads,
  c.requires.work,
  c.requires.loads.made,
)

pub plus-sum-requires-clause-sum : goal.plus-sum-requires-clause-sum
plus-sum-requires-clause-sum c =
    near_wider (2 ^ 100) (2 ^ 120) c.loop-number.sum (omega arith)
    (sum_near (parts_in c.args.problem) (box_in c.args.problem) c.args.prices.now
    c.loop-number.number c.loop-number.loads c.loop-number.sum
    (omega (
      arith,
      c.loop-number-test.true,
      c.loop-number.auto.number-end,
      ap length c.flights-number-end.ensures,
      c.args.problem.s.now.valid.flights.few,
    ))
    c.loop-number.invariant.0)

pub plus-sum-requires-clause-more : goal.plus-sum-requires-clause-more
plus-sum-requires-clause-more c =
    near_wider (2 ^ 84) (2 ^ 120) c.take_trip.result (omega arith)
    (cost_near (parts_in c.args.problem) c.args.prices.now c.args.problem.s.now.valid c.requires.low
    (box_in c.args.problem) _ c.take_trip.result c.take_trip.ensures.least)

pub loop-number-preserved : goal.loop-number-preserved
loop-number-preserved c = (
  subst (IsTakenSum (parts_in c.args.problem) (box_in c.args.problem) c.args.prices.now
      (c.loop-number.number + 1) c.take_trip.new.loads) (sym c.plus-sum.ensures)
      (sum_more (parts_in c.args.problem) c.args.prices.now c.args.problem.s.now.valid
      c.requires.low
      (box_in c.args.problem) c.loop-number.number c.loop-number.loads c.take_trip.new.loads
      c.loop-number.sum c.take_trip.result
      (omega (
        arith,
        c.loop-number-test.true,
        c.loop-number.auto.number-end,
        ap length c.flights-number-end.ensures,
      ))
      c.loop-number.invariant.0 c.take_trip.ensures.least c.take_trip.ensures.taken),
  c.take_trip.ensures.work,
  c.take_trip.ensures.made,
)
