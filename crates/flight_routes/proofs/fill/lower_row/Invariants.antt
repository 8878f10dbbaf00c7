use Rattle.std.proofs.Common.{◌≡◌, ℕ, ◌<◌, ◌≤◌, None, neg_ℤ, slice_index_or}
use Rattle.exact_sums.specs.Leasts.{raised}
use Rattle.flight_routes.specs.RateLists.{paid_in}
use Rattle.flight_routes.proofs.fill.lower_row.Given as goal

-- the slots so far, and those that are as they were
abbrev pub invariant-loop-time : goal.invariant-loop-time
invariant-loop-time l =
    record {
      done : (t : ℕ) → l.fn.window.lo ≤ t → t < l.time → slice_index_or l.row t None
          ≡ raised (neg_ℤ (paid_in l.paid t)) (slice_index_or l.fn.row t None);
      left : (t : ℕ) → l.time ≤ t → slice_index_or l.row t None ≡ slice_index_or l.fn.row t None;
    }
