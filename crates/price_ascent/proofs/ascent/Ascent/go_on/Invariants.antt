use Rattle.price_ascent.specs.Work.{IsAscentRoomFor}
use Rattle.time_windows.specs.Subproblems.{parts_in}
use Rattle.price_ascent.proofs.ascent.Ascent.go_on.Given as goal

abbrev pub invariant-loop : goal.invariant-loop
invariant-loop l = IsAscentRoomFor (parts_in l.problem) l.self
