use Rattle.std.proofs.Common.{◌≡◌, ◌++◌, drop, map}
use Rattle.scenario_maker.specs.Writing.{leg_row, rows_text}
use Rattle.scenario_maker.proofs.flights.put_legs.Given as goal

-- the text so far, and the lines of the legs that are left, are the whole
abbrev pub invariant-loop-leg : goal.invariant-loop-leg
invariant-loop-leg l =
    l.out.items
    ++ rows_text (map (leg_row l.fn.places l.fn.flight) (drop l.leg-index l.fn.flight.legs))
    ≡ l.fn.out.items ++ rows_text (map (leg_row l.fn.places l.fn.flight) l.fn.flight.legs)
