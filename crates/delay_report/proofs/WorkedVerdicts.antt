-- What is printed of each broken rule of a flight and its aircraft's flight back, byte by byte.
use Rattle.std.specs.Prelude.{codes}
use Rattle.std.proofs.Common.{◌≡◌, ℕ, List, negsuc, refl}
use Rattle.std.specs.Fmt.{digits}
use Rattle.flow_types.specs.declared.place.CapKind.TheVariants as kind
use Rattle.plan_rules.specs.declared.broken.Broken.{Broken}
use Rattle.plan_rules.specs.declared.broken.Broken.TheVariants as broken
use Rattle.plan_rules.specs.FirstBroken.{over}
use Rattle.worked_days.specs.Days.{plan_with, there_and_back, trip_at}
use Rattle.delay_report.specs.Verdicts.{broken_text, keeps_text}

abbrev line_of : Broken → List ℕ
line_of rule = broken_text (there_and_back 1 2) (plan_with (trip_at 3 5)) rule

keeps_line : keeps_text (negsuc 4) ≡ codes "keeps,-5\n"
unfolding digits
keeps_line = refl

trips_line : line_of (broken.Trips 1 2) ≡ codes "broken,trips,1,2\n"
unfolding digits
trips_line = refl

start_line : line_of (broken.Start 1) ≡ codes "broken,start,G1\n"
start_line = refl

window_line : line_of (broken.Window 1 2) ≡ codes "broken,window,G1,ORIG,5\n"
unfolding digits
window_line = refl

no_leg_line : line_of (broken.NoLeg 0 1) ≡ codes "broken,noleg,F1,S,DEST\n"
no_leg_line = refl

least_line : line_of (broken.Least 1 1 12) ≡ codes "broken,least,G1,S,3,ORIG,5,12\n"
unfolding digits
least_line = refl

ending_line : line_of (broken.Ending 0) ≡ codes "broken,ending,F1\n"
ending_line = refl

turn_line : line_of (broken.Turn 0 2 3) ≡ codes "broken,turn,F1,G1,2,3,2\n"
unfolding digits
turn_line = refl

departures_line : line_of (over kind.Dep 0 7 2 1) ≡ codes "broken,departures,ORIG,7,2,1\n"
unfolding digits
departures_line = refl

arrivals_line : line_of (over kind.Arr 1 7 2 1) ≡ codes "broken,arrivals,DEST,7,2,1\n"
unfolding digits
arrivals_line = refl

sectors_line : line_of (over kind.Sector 2 7 10 9) ≡ codes "broken,sectors,S,7,10,9\n"
unfolding digits
sectors_line = refl
