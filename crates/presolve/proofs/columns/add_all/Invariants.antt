use Rattle.std.proofs.Common.{sum_by}
use Rattle.std.specs.List.{range_with_len}
use Rattle.time_windows.specs.Subproblems.{box_in, parts_in}
use Rattle.exact_sums.proofs.LoopFacts.{AreOfNumbers}
use Rattle.presolve.specs.Counting.{IsCounted, flight_entries}
use Rattle.presolve.specs.Variables.{flight_columns}
use Rattle.presolve.proofs.columns.add_all.Given as goal

abbrev pub invariant-loop-flight : goal.invariant-loop-flight
invariant-loop-flight l = record {
  listed : AreOfNumbers (flight_columns (parts_in l.problem) (box_in l.problem)) 0 l.flight
      l.initial.columns l.columns;
  counted : IsCounted (sum_by (flight_entries (parts_in l.problem) (box_in l.problem))
      (range_with_len 0 l.flight)) l.initial.tally l.tally;
}
