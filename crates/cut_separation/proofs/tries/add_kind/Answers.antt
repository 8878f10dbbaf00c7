use Rattle.cut_separation.specs.Exceeding.{most_cuts}
use Rattle.cut_separation.specs.Framed.{is_taken, parts_in}
use Rattle.cut_separation.specs.Whole.{flight_cuts}
use Rattle.cut_separation.proofs.FirstFacts.{adds_none, adds_part}
use Rattle.cut_separation.proofs.tries.add_kind.Goals as goal

pub loop-flight-init : goal.loop-flight-init
loop-flight-init c =
    adds_none most_cuts (is_taken c.args.frame.now) c.args.draft.now.cuts c.requires.few

pub loop-flight-preserved : goal.loop-flight-preserved
loop-flight-preserved c =
    adds_part most_cuts (is_taken c.args.frame.now)
    (flight_cuts c.args.kind (parts_in c.args.frame.now)) c.loop-flight.flight
    c.args.draft.now.cuts c.loop-flight.draft.cuts c.add_flight.new.draft.cuts
    c.loop-flight.invariant c.in_ok-add_flight.ensures
