use Rattle.std.proofs.Common.{◌≡◌, drop}
use Rattle.time_windows.specs.Held.{box_of}
use Rattle.cert_checker.specs.Outside.{first_outside, outside_from}
use Rattle.cert_checker.proofs.outside.first_outside.Given as goal

abbrev pub invariant-loop-flight : goal.invariant-loop-flight
invariant-loop-flight l =
    first_outside (box_of l.boxes) l.plan
    ≡ outside_from (box_of l.boxes) l.flight (drop l.flight l.plan)
