-- What trips pay at prices, worked out by hand: each price by itself, and all together.
use Rattle.std.proofs.Common.{◌≡◌, ℕ, List, [], ◌∷◌, ◌++◌, ℤ, pos, neg_ℤ, ◌+ℤ◌, refl}
use Rattle.flow_types.specs.declared.parts.Parts.{Parts}
use Rattle.flow_types.specs.declared.plan.Stop.{Stop}
use Rattle.flight_routes.specs.Prices.{ArePricesOf, Block, PriceTable, priced_cost}
use Rattle.worked_days.specs.Days.{all_day, stop_at, there_and_back, trip_at}

-- The first flight is to leave ORIG in 0 and to arrive at DEST in 2. With its aircraft the second
-- one is to leave DEST in 3, a period after that arrival or later, and to arrive at ORIG in 5. A
-- period on the ground costs either of them 1, and one in the air 2.
abbrev parts : Parts
parts = there_and_back 9 1

-- a price in each period at ORIG, at DEST and in the sector
abbrev by_place : List ℕ → List ℕ → List ℕ → Block
by_place origin destination sector =
    record { rows = 3; periods = 8; prices = origin ++ destination ++ sector }

-- and of the connection
abbrev by_turn : List ℕ → Block
by_turn prices = record { rows = 1; periods = 8; prices = prices }

abbrev none : List ℕ
none = all_day 0

abbrev free : PriceTable
free = record {
  departures = by_place none none none;
  arrivals = by_place none none none;
  inside = by_place none none none;
  turns = by_turn none;
}

-- what a trip of the first flight pays, and one of the second
abbrev first_pays : PriceTable → List Stop → ℤ
first_pays prices trip = priced_cost 1 prices parts 0 trip

abbrev second_pays : PriceTable → List Stop → ℤ
second_pays prices trip = priced_cost 1 prices parts 1 trip

-- Without prices it is what the trip costs: 1 for a period on the ground, 2 for one in the air.
costs_alone : first_pays free (trip_at 1 3) ≡ pos 1
costs_alone = refl

costs_in_the_air : first_pays free (trip_at 0 3) ≡ pos 2
costs_in_the_air = refl

-- Departing from DEST in 3 has the price 5.
abbrev on_departures : PriceTable
on_departures =
    record free { departures = by_place none (0 ∷ 0 ∷ 0 ∷ 5 ∷ 0 ∷ 0 ∷ 0 ∷ 0 ∷ []) none }

departs_then : second_pays on_departures (trip_at 3 5) ≡ pos 5
departs_then = refl

departs_later : second_pays on_departures (trip_at 4 6) ≡ pos 1
departs_later = refl

-- who arrives there then pays nothing for it
arrives_free : first_pays on_departures (trip_at 1 3) ≡ pos 1
arrives_free = refl

-- Arriving at DEST in 3 has the price 5.
abbrev on_arrivals : PriceTable
on_arrivals = record free { arrivals = by_place none (0 ∷ 0 ∷ 0 ∷ 5 ∷ 0 ∷ 0 ∷ 0 ∷ 0 ∷ []) none }

arrives_then : first_pays on_arrivals (trip_at 1 3) ≡ pos 6
arrives_then = refl

arrives_later : first_pays on_arrivals (trip_at 2 4) ≡ pos 2
arrives_later = refl

departs_free : second_pays on_arrivals (trip_at 3 5) ≡ pos 0
departs_free = refl

-- Being in the sector in 1 has the price 2: on schedule the flight is there in 0 and 1.
abbrev on_stays : List ℕ → PriceTable
on_stays prices = record free { inside = by_place none none prices }

abbrev in_one : PriceTable
in_one = on_stays (0 ∷ 2 ∷ 0 ∷ 0 ∷ 0 ∷ 0 ∷ 0 ∷ 0 ∷ [])

on_schedule : first_pays in_one (trip_at 0 2) ≡ pos 2
on_schedule = refl

-- a period later it is there in 1 and 2, and two periods later in 2 and 3
enters_then : first_pays in_one (trip_at 1 3) ≡ pos 3
enters_then = refl

enters_later : first_pays in_one (trip_at 2 4) ≡ pos 2
enters_later = refl

-- it pays once, however long it stays
stays_on : first_pays in_one (trip_at 0 4) ≡ pos 6
stays_on = refl

-- in the air it pays nothing before it enters the sector
enters_from_the_air : first_pays in_one (stop_at 0 1 ∷ stop_at 1 2 ∷ stop_at 2 4 ∷ []) ≡ pos 3
enters_from_the_air = refl

-- nor does it for the period in which it arrives
leaves_then : first_pays (on_stays (0 ∷ 0 ∷ 2 ∷ 0 ∷ 0 ∷ 0 ∷ 0 ∷ 0 ∷ [])) (trip_at 0 2) ≡ pos 0
leaves_then = refl

-- The connection has the price 4 in 4: the second flight pays it where it departs by then.
abbrev on_turns : PriceTable
on_turns = record free { turns = by_turn (0 ∷ 0 ∷ 0 ∷ 0 ∷ 4 ∷ 0 ∷ 0 ∷ 0 ∷ []) }

departs_before : second_pays on_turns (trip_at 3 5) ≡ pos 4
departs_before = refl

departs_at_it : second_pays on_turns (trip_at 4 6) ≡ pos 5
departs_at_it = refl

departs_after : second_pays on_turns (trip_at 5 7) ≡ pos 2
departs_after = refl

-- The first one gets it back where it arrives a period of turnaround before then, or earlier.
arrives_early : first_pays on_turns (trip_at 0 2) ≡ neg_ℤ (pos 4)
arrives_early = refl

arrives_in_time : first_pays on_turns (trip_at 1 3) ≡ neg_ℤ (pos 3)
arrives_in_time = refl

arrives_too_late : first_pays on_turns (trip_at 2 4) ≡ pos 2
arrives_too_late = refl

-- Together they pay nothing beside their costs where the turnaround is kept, or get something back;
-- where it isn't, they pay the price.
abbrev both_pay : List Stop → List Stop → ℤ
both_pay there back = first_pays on_turns there +ℤ second_pays on_turns back

just_kept : both_pay (trip_at 1 3) (trip_at 4 6) ≡ pos 1 +ℤ pos 1
just_kept = refl

kept_with_time : both_pay (trip_at 1 3) (trip_at 5 7) ≡ pos 1 +ℤ pos 2 +ℤ neg_ℤ (pos 4)
kept_with_time = refl

not_kept : both_pay (trip_at 2 4) (trip_at 4 6) ≡ pos 2 +ℤ pos 1 +ℤ pos 4
not_kept = refl

-- All together: a departure pays 10, being in the sector in 1 pays 200, and an arrival 3000; 1 is
-- paid back, and the cost of 1 has the weight 6.
abbrev on_all : PriceTable
on_all = record {
  departures = by_place (all_day 10) none none;
  arrivals = by_place none (all_day 3000) none;
  inside = by_place none none (0 ∷ 200 ∷ 0 ∷ 0 ∷ 0 ∷ 0 ∷ 0 ∷ 0 ∷ []);
  turns = by_turn (0 ∷ 0 ∷ 0 ∷ 0 ∷ 1 ∷ 0 ∷ 0 ∷ 0 ∷ []);
}

are_prices : ArePricesOf parts on_all
are_prices = record {
  departures = record { wide = refl; long = refl };
  arrivals = record { wide = refl; long = refl };
  inside = record { wide = refl; long = refl };
  turns = record { wide = refl; long = refl };
}

pays_all : priced_cost 6 on_all parts 0 (trip_at 1 3) ≡ pos 3215
pays_all = refl

prices_alone : priced_cost 0 on_all parts 0 (trip_at 1 3) ≡ pos 3209
prices_alone = refl
