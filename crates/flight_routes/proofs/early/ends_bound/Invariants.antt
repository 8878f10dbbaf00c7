use Rattle.std.proofs.Common.{◌+◌, ◌^◌, ◌<◌, ◌≤◌, ◌+ℤ◌, ℕ, IfSome, IsSome}
use Rattle.flight_routes.specs.Early.{AreEnds, IsNoMore}
use Rattle.flight_routes.specs.RateLists.{rates_of}
use Rattle.flight_routes.specs.Rates.{value_or_zero}
use Rattle.exact_sums.specs.Near.{IsNear}
use Rattle.flight_routes.proofs.early.ends_bound.Given as goal

-- the least of leaving so far, and of both
abbrev pub invariant-loop-time : goal.invariant-loop-time
invariant-loop-time l =
    record {
      small : IfSome l.from (IsNear (2 ^ 110));
      leaves : (t : ℕ) → l.fn.leave.lo ≤ t → t ≤ l.fn.leave.hi
          → IsSome ((rates_of l.rates).leaves t) → t + l.fn.ahead < l.time
          → IsNoMore l.from (value_or_zero ((rates_of l.rates).leaves t));
      pairs : (t u : ℕ)
          → AreEnds l.fn.leave l.fn.arrive (rates_of l.rates) l.fn.ahead t u
          → u < l.time
          → IsNoMore l.least (value_or_zero ((rates_of l.rates).leaves t)
          +ℤ value_or_zero ((rates_of l.rates).arrives u));
    }
