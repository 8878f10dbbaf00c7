use Rattle.std.proofs.Common.{◌≡◌, None}
use Rattle.time_windows.specs.Held.{box_of}
use Rattle.cert_checker.specs.Outside.{first_below, is_outside}
use Rattle.cert_checker.proofs.outside.node_outside.Given as goal

abbrev pub invariant-loop-node : goal.invariant-loop-node
invariant-loop-node l =
    first_below (λ node. is_outside (box_of l.boxes l.flight node) node l.stops) l.node
    ≡ None
