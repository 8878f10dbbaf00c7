use Rattle.std.proofs.Common.{◌≡◌, ℕ, ◌<◌, true}
use Rattle.flight_routes.specs.Ready.{row_of}
use Rattle.flight_routes.proofs.accesses.limit_of.Given as goal

-- no node so far must be entered
abbrev pub invariant-loop-next : goal.invariant-loop-next
invariant-loop-next l =
    (k : ℕ) → l.node < k → k < l.next → (row_of l.accesses k).must ≡ true → ⊥
