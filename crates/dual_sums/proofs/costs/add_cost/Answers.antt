use Rattle.std.proofs.Common.{length, ◌+ℤ◌, ◌*ℤ◌, ◌∙◌, ap, pos, unsigned_abs, arith}
use Rattle.cut_rows.specs.Relaxations.{parts_under}
use Rattle.dual_sums.specs.Growing.{choice_under}
use Rattle.dual_sums.specs.Sums.{sum_at}
use Rattle.dual_sums.proofs.CostGrowFacts.{flights_all, flights_more, flights_none}
use Rattle.dual_sums.proofs.SumsFacts.{whole_near}
use Rattle.dual_sums.proofs.costs.add_cost.Goals as goal

pub loop-flight-init : goal.loop-flight-init
loop-flight-init c =
    let small = c.constant_share.ensures.small in
    let whole = whole_near c.constant_share.result (omega (arith, small)) in
    flights_none (parts_under c.args.relaxation)
    (choice_under c.args.relaxation) c.args.weight
    c.constant_share.result c.args.sums.now c.land.new.self c.constant_share.ensures.product small
    (λ bit. c.land.ensures.sum bit
    ∙ ap (λ more. sum_at bit c.args.sums.now +ℤ more *ℤ pos 1) whole)
    (let le = c.land.ensures.mass in let same = ap unsigned_abs whole in omega (arith, le, same))
    c.land.ensures.same

pub loop-flight-preserved : goal.loop-flight-preserved
loop-flight-preserved c =
    flights_more (parts_under c.args.relaxation)
    (choice_under c.args.relaxation) c.args.weight
    c.loop-flight.flight c.args.sums.now c.loop-flight.sums c.add_flight.new.sums
    (let same = ap length c.flights-flight-end.ensures in let lt = c.loop-flight-test.true in
    omega (arith, same, lt)) c.loop-flight.invariant c.add_flight.ensures

pub returns : goal.returns
returns c =
    flights_all (parts_under c.args.relaxation)
    (choice_under c.args.relaxation) c.args.weight
    c.loop-flight.flight c.args.sums.now c.loop-flight.sums c.args.relaxation.problem.s.now.valid
    (let same = ap length c.flights-flight-end.ensures in let le = c.loop-flight-test.false in
    omega (arith, same, le))
    (let same = ap length c.flights-flight-end.ensures in let le = c.loop-flight.auto.flight-end in
    omega (arith, same, le)) c.loop-flight.invariant
