use Rattle.std.proofs.Common.{◌≡◌, ◌++◌, drop}
use Rattle.plan_text.specs.Lines.{stops_text}
use Rattle.plan_text.proofs.lines.put_stops.Given as goal

-- the text so far, and the stops that are left, are the whole
abbrev pub invariant-loop-stop : goal.invariant-loop-stop
invariant-loop-stop l =
    l.out.items ++ stops_text l.fn.places l.fn.flight (drop l.stop-index l.fn.stops)
    ≡ l.fn.out.items ++ stops_text l.fn.places l.fn.flight l.fn.stops
