use Rattle.flow_types.specs.Scenario.{parts_of}
use Rattle.price_ascent.proofs.SlopeFacts.{good_set}
use Rattle.price_ascent.proofs.slopes.set_price.Goals as goal

pub returns : goal.returns
returns c =
    let parts = parts_of c.args.s.now in
    good_set parts c.args.prices.now c.set.new.self c.args.key c.in_range-value.result
    c.requires.prices c.requires.key (c.set.ensures.size parts c.requires.prices.size)
    c.in_range-value.ensures c.set.ensures.here c.set.ensures.others
