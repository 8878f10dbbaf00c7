use Rattle.time_windows.proofs.LegGroupFacts.{AreLegGroupsTo}
use Rattle.time_windows.proofs.leg_groups.leg_groups_of.Given as goal

abbrev pub invariant-loop-index : goal.invariant-loop-index
invariant-loop-index l = AreLegGroupsTo l.flights l.leg_groups l.index
