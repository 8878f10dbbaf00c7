use Rattle.std.proofs.Common.{◌<◌, ◌∙◌, Some, All, length, ap, subst, sym, arith}
use Rattle.flow_types.specs.declared.day.Day.{Day}
use Rattle.flow_types.specs.Scenario.{parts_of}
use Rattle.time_windows.specs.declared.turns.Turn.{Turn}
use Rattle.flight_routes.proofs.PriceRateFacts.{end_told}
use Rattle.time_windows.proofs.TurnFacts.{turns_at_end, turns_few, turns_there}
use Rattle.flight_routes.proofs.price_rates.set_end_rates.Goals as goal

pub add_up_later-requires-clause-turns : goal.add_up_later-requires-clause-turns
add_up_later-requires-clause-turns c =
    let own = turns_at_end c.args.end (parts_of c.args.priced.s.now) c.args.priced.turns.now
    c.args.priced.connected in
    subst (All (λ (turn : Turn). turn.connection < c.args.priced.prices.now.turns.rows))
    (sym (c.of_flight-turns.ensures ∙ own c.args.priced.flight c.args.priced.there))
    (turns_there c.args.end c.args.priced.flight c.args.priced.prices.now.turns.rows
    (parts_of c.args.priced.s.now).connections c.args.priced.priced.turns.wide)

pub add_up_later-requires-clause-few : goal.add_up_later-requires-clause-few
add_up_later-requires-clause-few c =
    let own = turns_at_end c.args.end (parts_of c.args.priced.s.now) c.args.priced.turns.now
    c.args.priced.connected in
    let few = turns_few c.args.end c.args.priced.flight 0 (parts_of c.args.priced.s.now).connections
    in
    let is = ap length (c.of_flight-turns.ensures ∙ own c.args.priced.flight c.args.priced.there) in
    omega (arith, few, is, c.args.priced.s.now.valid.connections.few)

pub returns-clause-costs : goal.returns-clause-costs
returns-clause-costs c = λ t low high.
    let own = turns_at_end c.args.end (parts_of c.args.priced.s.now) c.args.priced.turns.now
    c.args.priced.connected in
    c.set_end.ensures.costs t low high
    ∙ ap Some (end_told c.args.end c.args.priced.weight c.args.priced.prices.now
    (parts_of c.args.priced.s.now)
    c.args.priced.flight c.args.priced.there c.of_flight-turns.result.now t _
    c.day-periods.result.periods
    (ap (λ (day : Day). day.periods) c.day-periods.ensures)
    (c.of_flight-turns.ensures ∙ own c.args.priced.flight c.args.priced.there)
    (c.add_up_later.ensures.sums t low high))
