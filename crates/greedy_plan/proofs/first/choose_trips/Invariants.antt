use Rattle.std.proofs.Common.{◌≡◌, length}
use Rattle.flight_routes.specs.Work.{IsWorkFor}
use Rattle.plan_rules.specs.Loads.{AreLoads}
use Rattle.greedy_plan.specs.Greedy.{AreChosen, with_rest}
use Rattle.time_windows.specs.Subproblems.{box_in, parts_in}
use Rattle.greedy_plan.proofs.first.choose_trips.Given as goal

abbrev pub invariant-loop-number : goal.invariant-loop-number
invariant-loop-number l =
    AreChosen (parts_in l.problem) (box_in l.problem) l.plan
    × (length l.plan ≡ l.number)
    × AreLoads (parts_in l.problem) (with_rest (parts_in l.problem).flights l.plan) l.loads
    × IsWorkFor (parts_in l.problem) l.work
