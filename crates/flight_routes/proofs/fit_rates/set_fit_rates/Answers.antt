use Rattle.std.proofs.Common.{◌≡◌, ◌∙◌, ◌↔◌, ◌≤◌, ◌<◌, ℕ, List, ℤ, pos, ◌-ℤ◌, Option, None, All, get_or, length, ap, arith, subst, sym}
use Rattle.std.proofs.lemmas.Option.{get_or_from_slice_get}
use Rattle.flow_types.specs.declared.flight.Flight.{Flight}
use Rattle.flow_types.specs.Scenario.{flight_at, parts_of}
use Rattle.flow_types.specs.Trips.{place_at}
use Rattle.time_windows.specs.declared.access.Window.{Window}
use Rattle.time_windows.specs.declared.ends.End.TheVariants.{Arrival, Departure}
use Rattle.time_windows.specs.declared.turns.Turn.{Turn}
use Rattle.flight_routes.specs.FitRates.{IsGiven}
use Rattle.flight_routes.specs.FitTimes.{IsClearAt, IsFirstFull, IsFreeAt}
use Rattle.flight_routes.specs.RateLists.{rates_of}
use Rattle.flight_routes.specs.Ready.{IsInSpan, row_of}
use Rattle.flight_routes.specs.TimeCosts.{credit_then, total_then}
use Rattle.flight_routes.specs.TurnTimes.{IsAfter, IsInTime}
use Rattle.flight_routes.proofs.FillFacts.{all_clear}
use Rattle.flight_routes.proofs.LoadRateFacts.{fit_rates}
use Rattle.time_windows.proofs.TurnFacts.{others_there}
use Rattle.flight_routes.proofs.fit_rates.set_fit_rates.Goals as goal

pub first_leave-first-requires : goal.first_leave-first-requires
first_leave-first-requires c =
    subst (All (λ (turn : Turn). turn.other < length c.args.loaded.loads.now.arrives))
    (sym (c.of_flight.ensures ∙ c.args.loaded.connected.departures c.args.loaded.flight
    c.args.loaded.there))
    (others_there Departure c.args.loaded.flight (length c.args.loaded.loads.now.arrives)
    (parts_of c.args.loaded.s.now).flights (parts_of c.args.loaded.s.now).connections
    c.args.loaded.loaded.arrives
    c.args.loaded.s.now.valid.connections.each)

pub arrive_limit-limit-requires : goal.arrive_limit-limit-requires
arrive_limit-limit-requires c =
    subst (All (λ (turn : Turn). turn.other < length c.args.loaded.loads.now.leaves))
    (sym (c.of_flight-2.ensures ∙ c.args.loaded.connected.arrivals c.args.loaded.flight
    c.args.loaded.there))
    (others_there Arrival c.args.loaded.flight (length c.args.loaded.loads.now.leaves)
    (parts_of c.args.loaded.s.now).flights (parts_of c.args.loaded.s.now).connections
    c.args.loaded.loaded.leaves
    c.args.loaded.s.now.valid.connections.each)

pub returns-clause-rates : goal.returns-clause-rates
returns-clause-rates c = λ trips details are is.
    let parts = parts_of c.args.loaded.s.now in
    let loads = c.args.loaded.loads.now in
    let there = flight_at c.args.loaded.s.now c.args.loaded.flight in
    let costs = λ (t : ℕ) (xs : List (Option ℤ)). get_or xs t None in
    let same : c.index-flights-flight.result ≡ details =
    c.index-flights-flight.is
    ∙ ap (λ flights. get_or flights c.args.loaded.flight c.index-flights-flight.result)
    c.flights.ensures
    ∙ get_or_from_slice_get parts.flights c.args.loaded.flight details c.index-flights-flight.result
    is in
    fit_rates parts c.args.loaded.s.now.valid trips loads are c.args.loaded.flight
    c.last_of-last.result
    c.first_leave-first.result c.arrive_limit-limit.result details there is is
    (row_of c.args.accesses.now) c.set_all_full.new.table
    (c.last_of-last.ensures ∙ ap (λ (f : Flight). length f.nodes) same)
    c.args.table.now.span c.requires.day c.requires.windows.within
    (λ time. subst (λ turns. (c.first_leave-first.result ≤ time) ↔ All (IsAfter loads time) turns)
    (c.of_flight.ensures ∙ c.args.loaded.connected.departures c.args.loaded.flight
    c.args.loaded.there)
    (c.first_leave-first.ensures time))
    (λ time small. subst
    (λ turns. (time < c.arrive_limit-limit.result) ↔ All (IsInTime loads time) turns)
    (c.of_flight-2.ensures ∙ c.args.loaded.connected.arrivals c.args.loaded.flight
    c.args.loaded.there)
    (c.arrive_limit-limit.ensures time small))
    (λ t window. subst (λ given. IsGiven given
    (IsFreeAt Departure parts loads there c.first_leave-first.result t)
    (pos 0 -ℤ credit_then parts.tables there t))
    (sym (ap (costs t) (c.set_all_full.ensures.leaves ∙ c.set_end_in-2.ensures.only.leaves)))
    (c.set_end_in.ensures.costs t window))
    (λ t window. subst (λ given. IsGiven given
    (IsFreeAt Arrival parts loads there c.arrive_limit-limit.result t)
    (total_then parts.tables there t))
    (sym (ap (costs t) c.set_all_full.ensures.arrives))
    (c.set_end_in-2.ensures.costs t window))
    (λ n t above below in_span. subst (λ (f : Flight). IsFirstFull parts loads (place_at f n)
    c.args.table.now.span.hi t ((rates_of c.set_all_full.new.table).clear n t)) same
    (subst (λ (span : Window). IsInSpan span t → IsFirstFull parts loads
    (place_at c.index-flights-flight.result n) span.hi t
    ((rates_of c.set_all_full.new.table).clear n t))
    (c.set_end_in-2.ensures.only.span ∙ c.set_end_in.ensures.only.span)
    (c.set_all_full.ensures.full n t above below) in_span))
    c.set_all_full.ensures.table

pub returns-clause-clear : goal.returns-clause-clear
returns-clause-clear c = λ details is.
    let parts = parts_of c.args.loaded.s.now in
    let same : c.index-flights-flight.result ≡ details =
    c.index-flights-flight.is
    ∙ ap (λ flights. get_or flights c.args.loaded.flight c.index-flights-flight.result)
    c.flights.ensures
    ∙ get_or_from_slice_get parts.flights c.args.loaded.flight details c.index-flights-flight.result
    is in
    all_clear details c.last_of-last.result c.args.table.now.span c.set_all_full.new.table
    (c.last_of-last.ensures ∙ ap (λ (f : Flight). length f.nodes) same)
    (omega (arith, c.requires.day, c.args.loaded.s.now.valid.day.periods_to))
    c.set_all_full.ensures.table
    (subst (λ (span : Window). (n : ℕ) → 0 < n → n < c.last_of-last.result
    → IsClearAt span n (rates_of c.set_all_full.new.table))
    (c.set_end_in-2.ensures.only.span ∙ c.set_end_in.ensures.only.span)
    c.set_all_full.ensures.clear)
