use Rattle.std.proofs.Common.{◌∙◌, length, arith}
use Rattle.std.proofs.lemmas.Result.{err_from_is_err_and}
use Rattle.plan_rules.specs.FirstBroken.{broken_trip_in}
use Rattle.plan_rules.proofs.BrokenPlans.{number_to}
use Rattle.plan_rules.proofs.BrokenTrips.{trip_read}
use Rattle.plan_rules.proofs.FirstFacts.{first_along-found, first_along-next, none_or}
use Rattle.plan_rules.proofs.trips.check_trips.Goals as goal

pub returns-in_err-check_trip : goal.returns-in_err-check_trip
returns-in_err-check_trip c =
    let flights = c.flights-flights.result.now in
    let periods = c.day-periods.result.periods in
    let plan = c.args.plan.now in
    let at = c.loop-at.at in
    let flight = c.index-flights-at.result in
    let exit = err_from_is_err_and c.from_residual.result c.from_residual.ensures.1 in
    let read = trip_read periods plan at flight c.index-plan-at.result c.items.result.now
    (omega arith) c.index-plan-at.is c.items.ensures in
    let found = first_along-found
    (broken_trip_in periods plan) flights at flight c.in_err-check_trip.field-0.0
    c.loop-at.invariant.none
    (omega arith) c.index-flights-at.is (read ∙ c.in_err-check_trip.ensures) in
    rw (exit.1, exit.2, ← c.flights-flights.ensures, ← c.day-periods.ensures)
    (none_or _ _ (number_to (length plan) (length flights) c.if-plan-flights.false) ∙ found)

pub loop-at-preserved : goal.loop-at-preserved
loop-at-preserved c =
    let flights = c.flights-flights.result.now in
    let periods = c.day-periods.result.periods in
    let plan = c.args.plan.now in
    let at = c.loop-at.at in
    let flight = c.index-flights-at.result in
    let read = trip_read periods plan at flight c.index-plan-at.result c.items.result.now
    (omega arith) c.index-plan-at.is c.items.ensures in
    record {
      same_length = c.loop-at.invariant.same_length;
      none = first_along-next
          (broken_trip_in periods plan) flights at flight c.loop-at.invariant.none
          (omega arith) c.index-flights-at.is (read ∙ c.in_ok-check_trip.ensures);
    }
