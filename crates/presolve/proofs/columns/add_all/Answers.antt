use Rattle.std.proofs.Common.{◌+◌, ap, arith, length, sum_by, sym}
use Rattle.std.proofs.lemmas.Result.{err_from_is_err_and}
use Rattle.std.specs.List.{range_with_len}
use Rattle.exact_sums.proofs.LoopFacts.{numbers_more}
use Rattle.exact_sums.proofs.RangeFacts.{sum_next}
use Rattle.time_windows.specs.Subproblems.{box_in, parts_in}
use Rattle.presolve.specs.Counting.{column_entries, flight_entries}
use Rattle.presolve.proofs.CountFacts.{counted_both, sum_ranged_within, wide_both}
use Rattle.presolve.proofs.columns.add_all.Goals as goal

pub returns-in_err-add_counted-clause-wide : goal.returns-in_err-add_counted-clause-wide
returns-in_err-add_counted-clause-wide c =
    let part = flight_entries (parts_in c.args.problem) (box_in c.args.problem) in
    let p = err_from_is_err_and c.from_residual.result c.from_residual.ensures.1 in
    rw (p.1, p.2)
    (wide_both (sum_by part (range_with_len 0 c.loop-flight.flight)) (part c.loop-flight.flight)
    (column_entries (parts_in c.args.problem) (box_in c.args.problem)) c.args.tally.now
    c.loop-flight.tally c.in_err-add_counted.field-0.0 c.loop-flight.invariant.counted
    (sum_ranged_within part c.loop-flight.flight (length (parts_in c.args.problem).flights)
    (omega (arith, c.loop-flight-test.true, ap length c.flights-flight-end.ensures)))
    c.in_err-add_counted.ensures.wide)

pub loop-flight-preserved : goal.loop-flight-preserved
loop-flight-preserved c =
    let part = flight_entries (parts_in c.args.problem) (box_in c.args.problem) in
    record {
      listed = numbers_more c.loop-flight.invariant.listed c.in_ok-add_counted.ensures.columns;
      counted = counted_both (sum_by part (range_with_len 0 c.loop-flight.flight))
          (part c.loop-flight.flight) (sum_by part (range_with_len 0 (c.loop-flight.flight + 1)))
          c.args.tally.now c.loop-flight.tally c.add_counted.new.tally
          c.loop-flight.invariant.counted c.in_ok-add_counted.ensures.counted
          (sym (sum_next part c.loop-flight.flight));
    }
