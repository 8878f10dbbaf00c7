-- What is printed of worked days, byte by byte.
use Rattle.std.specs.Prelude.{codes}
use Rattle.std.proofs.Common.{◌≡◌, Some, None, pos, negsuc, refl}
use Rattle.std.specs.Fmt.{digits}
use Rattle.flow_types.specs.declared.bound.Bound.TheVariants.{AtLeast, NoPlan}
use Rattle.flow_types.specs.declared.parts.Parts.{Parts}
use Rattle.worked_days.specs.Days.{plan_with, trip_at, two_flights}
use Rattle.delay_report.specs.Texts.{report_text}

-- Both keep the schedule.
report_of_optimal : report_text (two_flights 2 9 9) (Some (plan_with (trip_at 0 2)))
    (AtLeast (pos 0)) 1
    ≡ codes "status,optimal\ncost,0\nbound,0\nnodes,1\ntrip,F1,ORIG,0,S,0,DEST,2\ntrip,F2,ORIG,0,S,0,DEST,2\n"
unfolding digits
report_of_optimal = refl

-- One departs a period late, at a cost of 1: the bound 1 makes that optimal, and lesser ones open.
report_of_late : report_text (two_flights 1 9 9) (Some (plan_with (trip_at 1 3)))
    (AtLeast (pos 1)) 12
    ≡ codes "status,optimal\ncost,1\nbound,1\nnodes,12\ntrip,F1,ORIG,0,S,0,DEST,2\ntrip,F2,ORIG,1,S,1,DEST,3\n"
unfolding digits
report_of_late = refl

report_of_open : report_text (two_flights 1 9 9) (Some (plan_with (trip_at 1 3)))
    (AtLeast (negsuc 7)) 1
    ≡ codes "status,open\ncost,1\nbound,-8\nnodes,1\ntrip,F1,ORIG,0,S,0,DEST,2\ntrip,F2,ORIG,1,S,1,DEST,3\n"
unfolding digits
report_of_open = refl

-- No plan was found; no plan exists.
report_of_none_found : report_text (two_flights 1 9 9) None (AtLeast (pos 0)) 1
    ≡ codes "status,open\ncost,none\nbound,0\nnodes,1\n"
unfolding digits
report_of_none_found = refl

report_of_infeasible : (parts : Parts) → report_text parts None NoPlan 1
    ≡ codes "status,infeasible\ncost,none\nbound,none\nnodes,1\n"
unfolding digits
report_of_infeasible parts = refl
