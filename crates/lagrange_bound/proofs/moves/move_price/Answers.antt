use Rattle.std.proofs.Common.{◌≡◌, ◌≤◌, ◌+◌, subst, ◌∙◌}
use Rattle.flow_types.specs.Scenario.{parts_of}
use Rattle.flight_routes.specs.Prices.{price_at}
use Rattle.priced_plans.specs.Usage.{traffic_in}
use Rattle.lagrange_bound.specs.Moves.{most_rise}
use Rattle.lagrange_bound.specs.Rounds.{moved_price}
use Rattle.lagrange_bound.proofs.MoveFacts.{one_moved}
use Rattle.lagrange_bound.proofs.moves.move_price.Goals as goal

pub returns : goal.returns
returns c =
    let parts = parts_of c.args.s.now in
    let move = moved_price parts (traffic_in c.args.loads.now) c.args.step in
    let value = subst (λ p. c.moved_price.result ≡ move c.args.key p) c.get-price.ensures.price
    c.moved_price.ensures.value in
    one_moved parts move c.args.key c.args.prices.now c.set.new.self c.requires.prices
    (c.set.ensures.here ∙ value)
    (subst (λ m. m ≤ price_at c.args.prices.now c.args.key + most_rise) value
    (subst (λ p. c.moved_price.result ≤ p + most_rise) c.get-price.ensures.price
    c.moved_price.ensures.rise))
    c.set.ensures.others (c.set.ensures.size parts c.requires.prices)
