use Rattle.std.proofs.Common.{◌≡◌, ◌++◌, drop}
use Rattle.flow_types.specs.Scenario.{parts_of}
use Rattle.delay_report.specs.Texts.{trips_text}
use Rattle.delay_report.proofs.report.put_trips.Given as goal

-- the text so far, and the trips that are left, are the whole
abbrev pub invariant-loop-at : goal.invariant-loop-at
invariant-loop-at l =
    l.out.items ++ trips_text (parts_of l.fn.s).places (drop l.at (parts_of l.fn.s).flights)
    (drop l.at l.fn.trips)
    ≡ l.fn.out.items ++ trips_text (parts_of l.fn.s).places (parts_of l.fn.s).flights l.fn.trips
