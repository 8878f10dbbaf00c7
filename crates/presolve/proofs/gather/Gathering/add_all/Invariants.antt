use Rattle.std.proofs.Common.{take}
use Rattle.time_windows.specs.Held.{box_of}
use Rattle.presolve.specs.Gathering.{AreGathered}
use Rattle.presolve.proofs.gather.Gathering.add_all.Given as goal

abbrev pub invariant-loop-term : goal.invariant-loop-term
invariant-loop-term l =
    AreGathered l.fn.s.parts (box_of l.fn.boxes) (take l.term-index l.fn.terms) l.self
