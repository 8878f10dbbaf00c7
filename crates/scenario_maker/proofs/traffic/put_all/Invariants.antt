use Rattle.std.proofs.Common.{◌≡◌, ◌++◌, drop}
use Rattle.scenario_maker.specs.Writing.{rows_text, traffic_rows}
use Rattle.scenario_maker.proofs.traffic.put_all.Given as goal

-- the text so far, and the lines of the flights and connections that are left, are the whole
abbrev pub invariant-loop-k : goal.invariant-loop-k
invariant-loop-k l =
    l.out.items
    ++ rows_text (traffic_rows l.fn.places l.fn.tables l.fn.flights l.k (drop l.k l.fn.flights)
    l.waiting)
    ≡ l.fn.out.items
    ++ rows_text (traffic_rows l.fn.places l.fn.tables l.fn.flights 0 l.fn.flights
    l.fn.connections)
