use Rattle.std.proofs.Common.{ℕ, List, ◌++◌, drop}
use Rattle.certificate.specs.Lines.{fields_text, stop_fields}
use Rattle.certificate.specs.Put.{HoldsFront}
use Rattle.certificate.proofs.text.put_stops.Given as goal

abbrev pub invariant-loop-stop : goal.invariant-loop-stop
invariant-loop-stop g l = (text : List ℕ) → g.O.Out.holds l.fn.out text
    → HoldsFront (g.O.Out.holds l.out) (text ++ fields_text (stop_fields l.places l.flight l.stops))
    (fields_text (stop_fields l.places l.flight (drop l.stop-index l.stops)))
