use Rattle.flow_types.specs.Scenario.{parts_of}
use Rattle.time_windows.proofs.RootFacts.{IsRootTo}
use Rattle.time_windows.proofs.boxes.Boxes.root.Given as goal

abbrev pub invariant-loop-index : goal.invariant-loop-index
invariant-loop-index l = IsRootTo (parts_of l.s) l.accesses.items l.index
