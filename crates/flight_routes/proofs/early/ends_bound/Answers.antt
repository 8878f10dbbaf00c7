use Rattle.std.proofs.Common.{◌+◌, ◌^◌, ◌<◌, ◌≤◌, ℕ, IfSome, IsSome, Option, ℤ, sym, subst}
use Rattle.flight_routes.specs.Early.{IsNoMore}
use Rattle.flight_routes.specs.RateLists.{rates_of}
use Rattle.flight_routes.specs.Rates.{value_or_zero}
use Rattle.exact_sums.specs.Near.{IsNear}
use Rattle.flight_routes.proofs.EarlyFacts.{leaves_next, lesser_within, pairs_next, small_wider}
use Rattle.flight_routes.proofs.early.ends_bound.Goals as goal

pub and-requires-clause-cost : goal.and-requires-clause-cost
and-requires-clause-cost c =
    small_wider c.lesser-from.result (subst (λ (o : Option ℤ). IfSome o (IsNear (2 ^ 110)))
    (sym c.lesser-from.ensures)
    (lesser_within (2 ^ 110) c.loop-time.from c.leave_in.result c.loop-time.invariant.small
    c.leave_in.ensures.small))

pub loop-time-preserved : goal.loop-time-preserved
loop-time-preserved c =
    let rates = rates_of c.args.rates.now in
    let leaves : (t : ℕ) → c.args.leave.lo ≤ t → t ≤ c.args.leave.hi → IsSome (rates.leaves t)
    → t + c.args.ahead < c.loop-time.time + 1
    → IsNoMore c.lesser-from.result (value_or_zero (rates.leaves t)) =
    rw c.lesser-from.ensures (leaves_next c.args.leave c.args.arrive rates c.args.ahead
    c.loop-time.time c.loop-time.from c.leave_in.result
    c.loop-time.invariant.leaves c.leave_in.ensures.rate) in
    record {
      small = rw c.lesser-from.ensures
          (lesser_within (2 ^ 110) c.loop-time.from c.leave_in.result c.loop-time.invariant.small
          c.leave_in.ensures.small);
      leaves = leaves;
      pairs = rw (c.lesser-least.ensures, c.and.ensures)
          (pairs_next c.args.leave c.args.arrive rates c.args.ahead c.loop-time.time
          c.lesser-from.result c.arrive_in.result c.loop-time.least leaves
          c.arrive_in.ensures.rate c.loop-time.invariant.pairs);
    }
