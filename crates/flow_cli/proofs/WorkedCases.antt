-- A plan that keeps every rule.
use Rattle.std.proofs.Common.{List, refl, arith}
use Rattle.std.proofs.lemmas.List.Elements.{All-nil}
use Rattle.flow_types.specs.declared.plan.Stop.{Stop}
use Rattle.flow_types.specs.Feasible.{IsFeasible, KeepsTurn}
use Rattle.worked_days.specs.Days.{plan_with, trip_at, two_flights}
use Rattle.worked_days.proofs.WorkedDay.{beside_is, feasible_is, there_is}

abbrev pub on_time : List (List Stop)
on_time = plan_with (trip_at 0 2)

-- The plan of the earliest trips keeps every rule where two may leave in a period.
pub keeps : IsFeasible (two_flights 2 9 9) on_time
keeps =
    feasible_is (two_flights 2 9 9) on_time
    (there_is, (beside_is 0 2 (omega arith) (omega arith) (omega arith), tt))
    (All-nil (KeepsTurn on_time)) refl refl refl
