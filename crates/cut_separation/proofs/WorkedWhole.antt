-- The whole cuts of a flight with six nodes, and one that a point exceeds.
use Rattle.std.proofs.Common.{◌≡◌, ℕ, true, false, [], ◌∷◌, length, get_or, pos, Some, refl}
use Rattle.flow_types.specs.declared.flight.Flight.{Flight}
use Rattle.flow_types.specs.declared.flight.Leg.{Leg}
use Rattle.flow_types.specs.declared.parts.Parts.{Parts}
use Rattle.worked_days.specs.Days.{there, two_flights}
use Rattle.cut_rows.specs.declared.names.CutName.{CutName}
use Rattle.cut_rows.specs.declared.names.CutName.TheVariants.{Departed, Heads}
use Rattle.cut_rows.specs.Cuts.{cut_row}
use Rattle.cut_separation.specs.Exceeding.{is_exceeded}
use Rattle.cut_separation.specs.Whole.{heads_of, whole_cuts}

abbrev leg_with : ℕ → ℕ → ℕ → Leg
leg_with from to least = record { from = from; to = to; least = least }

-- node 2 is entered from two nodes, 3 and 4 from node 1 alone
abbrev knotted : Flight
knotted = record there {
  nodes = 0 ∷ 2 ∷ 3 ∷ 4 ∷ 5 ∷ 1 ∷ [];
  legs = leg_with 0 1 2 ∷ leg_with 0 2 1 ∷ leg_with 1 2 0 ∷ leg_with 1 3 4 ∷ leg_with 1 4 1
      ∷ leg_with 2 5 2 ∷ leg_with 3 5 0 ∷ leg_with 4 5 3 ∷ [];
}

abbrev knot : Parts
knot = record (two_flights 1 9 9) { flights = knotted ∷ [] }

heads_of_the_first : heads_of (Some knotted) 0 ≡ 1 ∷ []
heads_of_the_first = refl

heads_of_the_second : heads_of (Some knotted) 1 ≡ 3 ∷ 4 ∷ []
heads_of_the_second = refl

-- the last node has other predecessors too
no_heads : heads_of (Some knotted) 2 ≡ []
no_heads = refl

-- two nodes with heads and five that may be late, each in eight periods
so_many : length (whole_cuts knot) ≡ 56
so_many = refl

abbrev none : CutName
none = Departed 9 9 9

first_of_all : get_or (whole_cuts knot) 0 none ≡ Heads 0 0 0 (1 ∷ [])
first_of_all = refl

then_the_next_node : get_or (whole_cuts knot) 8 none ≡ Heads 0 1 0 (3 ∷ 4 ∷ [])
then_the_next_node = refl

then_the_departures : get_or (whole_cuts knot) 16 none ≡ Departed 0 1 0
then_the_departures = refl

last_of_all : get_or (whole_cuts knot) 55 none ≡ Departed 0 5 7
last_of_all = refl

-- where all are entered at once, both ways are: one too many
abbrev forked : Parts
forked = record (two_flights 1 9 9) {
  flights = record there {
    nodes = 0 ∷ 2 ∷ 3 ∷ 1 ∷ [];
    legs = leg_with 0 1 0 ∷ leg_with 0 2 0 ∷ leg_with 1 3 2 ∷ leg_with 2 3 3 ∷ [];
  } ∷ [];
}

both_at_once : is_exceeded (λ variable. pos 1) (pos 1) (cut_row forked (Heads 0 0 0 (1 ∷ 2 ∷ [])))
    ≡ true
both_at_once = refl

each_by_half : is_exceeded (λ variable. pos 1) (pos 2) (cut_row forked (Departed 0 3 2)) ≡ false
each_by_half = refl
