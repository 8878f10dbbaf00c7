use Rattle.std.proofs.Common.{◌∙◌, ◌++◌, ◌*◌, ap, sym, take, arith}
use Rattle.exact_sums.specs.Lists.{flat_map_from}
use Rattle.exact_sums.proofs.LoopFacts.{next_numbered}
use Rattle.bytime_model.specs.Rows.{use_terms}
use Rattle.bytime_model.proofs.FillFacts.{filled_more, use_few}
use Rattle.bytime_model.proofs.fill.put_uses.Goals as goal

pub loop-number-preserved : goal.loop-number-preserved
loop-number-preserved c =
    let number = c.loop-number.number in
    let flights = c.flights-flights.result.now in
    let flight = c.index-flights-number.result in
    let part = use_terms c.args.kind c.args.place c.args.time in
    let so_far = flat_map_from part 0 (take number flights) in
    filled_more so_far (part number flight) _ (2 * number) 2 _ _ _ _ c.loop-number.invariant
    c.put_use.ensures (use_few c.args.kind c.args.place c.args.time number flight)
    (next_numbered part flights number flight (omega (arith, c.loop-number-test.true))
    ∙ ap (λ f. so_far ++ part number f) (sym c.index-flights-number.is)) (omega arith)
