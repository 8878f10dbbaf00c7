use Rattle.std.proofs.Common.{ℕ, List, ◌++◌, drop}
use Rattle.certificate.specs.Put.{HoldsFront}
use Rattle.certificate.specs.Texts.{trips_text}
use Rattle.certificate.proofs.text.put_trips.Given as goal

abbrev pub invariant-loop-at : goal.invariant-loop-at
invariant-loop-at g l = (text : List ℕ) → g.O.Out.holds l.fn.out text
    → HoldsFront (g.O.Out.holds l.out) (text ++ trips_text l.places l.flights l.trips)
    (trips_text l.places (drop l.at l.flights) (drop l.at l.trips))
