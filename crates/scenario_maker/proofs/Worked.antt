-- The texts of worked days, and of a made one.
use Rattle.std.specs.Prelude.{codes}
use Rattle.std.proofs.Common.{◌≡◌, length, refl}
use Rattle.std.specs.Fmt.{digits}
use Rattle.worked_days.specs.Days.{there_and_back, two_flights}
use Rattle.worked_days.specs.Texts.{there_and_back_text, two_flights_text}
use Rattle.scenario_maker.specs.Made.{made_parts, made_text}
use Rattle.scenario_maker.specs.Writing.{beginning_text, scenario_rows, scenario_text}

text_of_two_flights : scenario_text (two_flights 1 9 9) ≡ two_flights_text
unfolding digits beginning_text
text_of_two_flights = refl

text_of_there_and_back : scenario_text (there_and_back 1 2) ≡ there_and_back_text
unfolding digits beginning_text
text_of_there_and_back = refl

made_of_six : made_text 6 ≡ codes
    "day,2011-03-14T06:00,15,96\nairport,P0,1,1\nairport,P1,1,1\nairport,P2,1,1\nairport,P3,1,1\nairport,P4,1,1\nairport,P5,1,1\nsector,Z0,1\nsector,Z1,1\nsector,Z2,1\nsector,Z3,1\nsector,Z4,1\nsector,Z5,1\nsector,Z6,1\nsector,Z7,1\nsector,Z8,1\nsector,Z9,1\nflight,F0,P0,P1,0,5,8,8,1,2\nleg,F0,P0,Z2,1\nleg,F0,Z2,Z3,2\nleg,F0,Z3,P1,2\nleg,F0,Z2,Z7,3\nleg,F0,Z7,P1,2\nflight,F1,P2,P3,3,8,8,8,1,2\nleg,F1,P2,Z9,1\nleg,F1,Z9,Z1,2\nleg,F1,Z1,P3,2\nflight,F2,P3,P2,10,15,8,8,1,2\nleg,F2,P3,Z9,1\nleg,F2,Z9,Z2,2\nleg,F2,Z2,P2,2\nconnect,F1,F2,2\nflight,F3,P1,P3,7,12,8,8,1,2\nleg,F3,P1,Z0,1\nleg,F3,Z0,Z4,2\nleg,F3,Z4,P3,2\nleg,F3,Z0,Z8,3\nleg,F3,Z8,P3,2\nflight,F4,P3,P5,10,15,8,8,1,2\nleg,F4,P3,Z7,1\nleg,F4,Z7,Z8,2\nleg,F4,Z8,P5,2\nflight,F5,P5,P3,17,22,8,8,1,2\nleg,F5,P5,Z6,1\nleg,F5,Z6,Z8,2\nleg,F5,Z8,P3,2\nconnect,F4,F5,2\n"
unfolding digits beginning_text made_text
made_of_six = refl

rows_of_sixty : length (scenario_rows (made_parts 60)) ≡ 317
rows_of_sixty = refl
