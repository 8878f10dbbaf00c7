use Rattle.std.proofs.Common.{ap, arith}
use Rattle.flight_routes.specs.Prices.{Block}
use Rattle.flight_routes.proofs.PriceFacts.{price_set}
use Rattle.flight_routes.proofs.price_block.PriceBlock.set.Goals as goal

pub returns : goal.returns
returns c =
    let rows = ap (λ (b : Block). b.rows) c.self.view_is in
    let periods = ap (λ (b : Block). b.periods) c.self.view_is in
    rw (← c.self.view_is, c.from.ensures, c.from-2.ensures)
    (price_set c.self.inside.rows c.self.inside.periods c.self.inside.prices.items c.args.row
    c.args.period c.args.price c.self.invariant.0
    (omega (arith, rows, c.requires.place.within))
    (omega (arith, periods, c.requires.place.in_day)))
