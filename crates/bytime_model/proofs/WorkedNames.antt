-- The names of all rows of a day of two periods and one flight with two ways, and their order.
use Rattle.std.proofs.Common.{◌≡◌, true, false, [], ◌∷◌, length, refl}
use Rattle.flow_types.specs.declared.parts.Parts.{Parts}
use Rattle.bytime_model.specs.declared.names.RowName.TheVariants.{Arr, Connect, Cut, Dep, Enter, Leave, Mono, Occupy, Sector, Top}
use Rattle.bytime_model.specs.AllRows.{rows_of}
use Rattle.bytime_model.specs.Order.{is_before}
use Rattle.bytime_model.proofs.WorkedRows.{forked}
use Rattle.worked_days.specs.Days.{there_and_back, two_flights}

abbrev brief : Parts
brief = record (there_and_back 9 1) {
  day = record (there_and_back 9 1).day { periods = 2 };
  flights = forked.flights;
}

all_names : rows_of brief
    ≡ Mono 0 0 1 ∷ Mono 0 1 1 ∷ Mono 0 2 1 ∷ Mono 0 3 1
    ∷ Top 0 0 ∷ Top 0 1 ∷ Top 0 2 ∷ Top 0 3
    ∷ Dep 0 0 ∷ Dep 0 1 ∷ Dep 1 0 ∷ Dep 1 1
    ∷ Arr 0 0 ∷ Arr 0 1 ∷ Arr 1 0 ∷ Arr 1 1
    ∷ Sector 2 0 ∷ Sector 2 1
    ∷ Occupy 0 1 0 ∷ Occupy 0 1 1 ∷ Occupy 0 2 0 ∷ Occupy 0 2 1
    ∷ Enter 0 1 0 ∷ Enter 0 1 1 ∷ Enter 0 2 0 ∷ Enter 0 2 1 ∷ Enter 0 3 0 ∷ Enter 0 3 1
    ∷ Leave 0 0 ∷ Leave 0 1 ∷ Leave 0 2
    ∷ Connect 0 0 ∷ Connect 0 1 ∷ []
all_names = refl

-- 6 nodes with 7 later periods, 6 tops, 16 departures, 16 arrivals, 8 in the sector, 4 nodes that
-- are entered in 8 periods, 4 that are left
how_many : length (rows_of (two_flights 1 9 9)) ≡ 124
how_many = refl

-- and a connection in 8 periods
with_connection : length (rows_of (there_and_back 9 1)) ≡ 132
with_connection = refl

-- by kind, then from left to right
kinds_first : is_before (Mono 9 9 9) (Top 0 0) ≡ true
kinds_first = refl

flights_then : is_before (Enter 1 9 9) (Enter 2 0 0) ≡ true
flights_then = refl

nodes_then : is_before (Enter 1 2 9) (Enter 1 3 0) ≡ true
nodes_then = refl

times_last : is_before (Enter 1 2 4) (Enter 1 2 3) ≡ false
times_last = refl

not_itself : is_before (Connect 1 2) (Connect 1 2) ≡ false
not_itself = refl

cuts_last : is_before (Connect 9 9) (Cut 0) ≡ true
cuts_last = refl
