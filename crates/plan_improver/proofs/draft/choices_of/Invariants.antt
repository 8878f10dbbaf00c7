use Rattle.std.proofs.Common.{◌≡◌, length}
use Rattle.flight_routes.specs.Work.{IsWorkFor}
use Rattle.time_windows.specs.Subproblems.{parts_in}
use Rattle.plan_improver.proofs.draft.choices_of.Given as goal

abbrev pub invariant-loop-number : goal.invariant-loop-number
invariant-loop-number l = record {
  work : IsWorkFor (parts_in l.problem) l.work;
  count : length l.choices.items ≡ l.number;
}
