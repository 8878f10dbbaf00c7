use Rattle.std.proofs.Common.{arith, ◌==◌, ◌&&◌, ◌+◌, nat_le, nat_lt, drop, get_or}
use Rattle.flow_types.specs.Counts.{one_if, stays_from}
use Rattle.plan_rules.proofs.StayFacts.{stays_next, stays_end}
use Rattle.plan_rules.proofs.GridFacts.{changes_then, changes_same, changes_none}
use Rattle.plan_rules.proofs.trip_counts.change_stays_from.Goals as goal

pub loop-next-preserved : goal.loop-next-preserved
loop-next-preserved c =
    let flight = c.args.flight.now in
    let rest = c.args.rest.now in
    let i = c.loop-next.next-index in
    let stop = c.loop-next.stop in
    let next = get_or rest i (record { node = 0; time = 0 }) in
    λ new left. c.loop-next.invariant new
    (changes_same c.args.change _ (λ k t. stays_from k t flight stop (drop i rest)) c.loop-next.grid
    new
    (λ k t k_in t_in. stays_next flight stop rest i (record {
      node = 0;
      time = 0;
    }) c.place_at.result k t (omega arith) c.place_at.ensures)
    (changes_then c.args.change (λ k t. one_if
    ((c.place_at.result == k) && nat_le stop.time t && nat_lt t next.time))
    (λ k t. stays_from k t flight next (drop (i + 1) rest))
    c.loop-next.grid c.change_stay.new.self new c.change_stay.ensures left))

pub returns : goal.returns
returns c =
    c.loop-next.invariant c.loop-next.grid
    (changes_same c.args.change (λ k t. 0)
    (λ k t. stays_from k t c.args.flight.now c.loop-next.stop
    (drop c.loop-next.next-index c.args.rest.now)) c.loop-next.grid c.loop-next.grid
    (λ k t k_in t_in. stays_end c.args.flight.now c.loop-next.stop c.args.rest.now
    c.loop-next.next-index k t (omega arith))
    (changes_none c.args.change c.loop-next.grid))
