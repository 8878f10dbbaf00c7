use Rattle.std.proofs.Common.{◌≡◌, ◌<◌, ℕ, true}
use Rattle.std.specs.List.{Any}
use Rattle.time_windows.specs.Held.{box_of}
use Rattle.plan_improver.proofs.inside.keeps_musts.Given as goal

-- each node so far has a stop, if it must be entered
abbrev pub invariant-loop-node : goal.invariant-loop-node
invariant-loop-node l =
    (node : ℕ) → node < l.node → (box_of l.boxes l.flight node).must ≡ true
    → Any (λ stop. stop.node ≡ node) l.stops
