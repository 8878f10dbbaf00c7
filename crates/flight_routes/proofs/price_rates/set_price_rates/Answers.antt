use Rattle.std.proofs.Common.{◌≡◌, ◌∙◌, ℕ, List, ℤ, pos, Option, None, get_or, length, ap, subst}
use Rattle.std.proofs.lemmas.Option.{get_or_from_slice_get}
use Rattle.flow_types.specs.declared.flight.Flight.{Flight}
use Rattle.flow_types.specs.Scenario.{flight_at, parts_of}
use Rattle.flow_types.specs.Trips.{place_at}
use Rattle.time_windows.specs.declared.access.Window.{Window}
use Rattle.flight_routes.specs.Prices.{price_in, summed}
use Rattle.flight_routes.specs.RateLists.{place_of, rates_of}
use Rattle.flight_routes.specs.Ready.{IsInSpan, row_of}
use Rattle.flight_routes.proofs.PriceRateFacts.{price_rates}
use Rattle.flight_routes.proofs.price_rates.set_price_rates.Goals as goal

pub returns-clause-rates : goal.returns-clause-rates
returns-clause-rates c = λ details is.
    let parts = parts_of c.args.priced.s.now in
    let leaves = λ (time : ℕ) (costs : List (Option ℤ)). get_or costs time None in
    let same : c.index-flights-flight.result ≡ details =
    c.index-flights-flight.is
    ∙ ap (λ flights. get_or flights c.args.priced.flight c.index-flights-flight.result)
    c.flights.ensures
    ∙ get_or_from_slice_get parts.flights c.args.priced.flight details c.index-flights-flight.result
    is in
    price_rates c.args.priced.weight c.args.priced.prices.now parts c.args.priced.flight
    c.last_of-last.result details
    (flight_at c.args.priced.s.now c.args.priced.flight) (row_of c.args.accesses.now)
    c.set_stays.new.table is
    (c.last_of-last.ensures ∙ ap (λ (f : Flight). length f.nodes) same)
    c.args.table.now.span c.requires.day c.args.priced.s.now.valid.day.periods_to
    (λ t window.
    ap (leaves t) (c.set_stays.ensures.only.leaves ∙ c.set_end_in-2.ensures.only.leaves)
    ∙ c.set_end_in.ensures.costs t window)
    (λ t window.
    ap (leaves t) c.set_stays.ensures.only.arrives ∙ c.set_end_in-2.ensures.costs t window)
    (λ n t above below in_span.
    subst (λ (s : Window). IsInSpan s t → (rates_of c.set_stays.new.table).paid n t
    ≡ pos (summed (price_in c.args.priced.prices.now.inside
    (place_at c.index-flights-flight.result n)) s.lo t))
    (c.set_end_in-2.ensures.only.span ∙ c.set_end_in.ensures.only.span)
    (c.set_stays.ensures.paid n t above below) in_span
    ∙ ap (λ (f : Flight). pos (summed (price_in c.args.priced.prices.now.inside (place_at f n))
    c.args.table.now.span.lo t)) same)
    (λ t in_day. c.set_stays.ensures.first t in_day
    ∙ ap (λ costs. get_or costs (place_of 0 t) (pos 0))
    (c.set_end_in-2.ensures.only.paid ∙ c.set_end_in.ensures.only.paid)
    ∙ c.requires.table.free t in_day)
    (c.set_stays.ensures.only.clear ∙ c.set_end_in-2.ensures.only.clear
    ∙ c.set_end_in.ensures.only.clear ∙ c.requires.table.clear)
