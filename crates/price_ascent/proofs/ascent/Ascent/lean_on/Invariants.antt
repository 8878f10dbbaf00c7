use Rattle.flow_types.specs.Scenario.{parts_of}
use Rattle.price_ascent.specs.Work.{IsAscentRoomFor}
use Rattle.price_ascent.proofs.ascent.Ascent.lean_on.Given as goal

abbrev pub invariant-loop-pass : goal.invariant-loop-pass
invariant-loop-pass l = IsAscentRoomFor (parts_of l.s) l.self
