use Rattle.std.proofs.Common.{◌∙◌, ◌-◌, ap, refl, slice_index, arith}
use Rattle.flight_routes.specs.Prices.{price_in}
use Rattle.flight_routes.proofs.LaterFacts.{adds_more}
use Rattle.flight_routes.proofs.later.add_later.Goals as goal

pub loop-turns-preserved : goal.loop-turns-preserved
loop-turns-preserved c =
    let last = c.loop-turns.time - 1 in
    let turns = c.row-turns.ensures in
    let some = c.loop-turns-test.true in
    let within = c.loop-turns.invariant.within in
    let price = turns.prices last (omega (arith, some, within, c.requires.long)) in
    let small = turns.small last 0 (omega (arith, some, within, c.requires.long, turns.length)) in
    adds_more (price_in c.args.prices.now.turns c.args.connection) c.args.window.lo c.args.window.hi
    c.args.shift c.args.periods c.loop-turns.time last c.loop-turns.sum c.from-sum.result
    (last - c.args.shift) c.args.sums.now
    c.loop-turns.sums c.add_in.new.sums (omega (arith, some)) c.loop-turns.invariant
    (omega (arith, some)) refl
    (c.from-sum.ensures
    ∙ ap (λ n. slice_index c.row-turns.result.now n) c.from-in-loop-turns-3.ensures ∙ price)
    (omega (arith, small, price)) c.add_in.ensures.length
    c.add_in.ensures.here c.add_in.ensures.others
