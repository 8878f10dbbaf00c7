use Rattle.std.proofs.Common.{sym, subst}
use Rattle.lagrange_bound.specs.Rounds.{IsLeastTrip}
use Rattle.time_windows.specs.Subproblems.{box_in, parts_in}
use Rattle.lagrange_bound.proofs.TakeFacts.{one_taken}
use Rattle.lagrange_bound.proofs.taking.take_trip.Goals as goal

pub returns-in-Some-clause-taken : goal.returns-in-Some-clause-taken
returns-in-Some-clause-taken c = λ have.
    let parts = parts_in c.args.problem in
    let box = box_in c.args.problem in
    one_taken parts box c.args.prices.now c.args.flight c.trip.result.now c.args.loads.now
    c.add.new.self c.requires.flight
    (subst (IsLeastTrip parts box c.args.prices.now c.args.flight) (sym c.trip.ensures)
    c.in-Some.ensures.first) c.add.ensures.trips have
