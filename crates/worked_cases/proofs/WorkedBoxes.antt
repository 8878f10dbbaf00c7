-- Boxes of a flight through one sector, worked out.
use Rattle.std.proofs.Common.{◌≡◌, ℕ, zero, suc, ◌+◌, ◌<◌, Bool, true, false, [], ◌∷◌, Option, None, Some, inl, inr, refl, subst, arith}
use Rattle.std.specs.List.{Any}
use Rattle.flow_types.specs.declared.flight.Flight.{Flight}
use Rattle.flow_types.specs.declared.flight.Leg.{Leg}
use Rattle.time_windows.specs.declared.access.Access.{Access}
use Rattle.time_windows.specs.declared.access.Window.{Window}
use Rattle.time_windows.specs.Boxes.{Box, IsProper, closed, options_of, root_access}
use Rattle.time_windows.specs.Splits.{IsBranching, early_branch, late_branch}
use Rattle.time_windows.specs.Steps.{below_limit, entry_of, from_entry, limit_of}
use Rattle.time_windows.specs.Tight.{IsTightRow, IsLegIn, IsLegOut, KeepsEnds}
use Rattle.time_windows.proofs.AnyFacts.{any_cases, any_here, any_none, any_there}
use Rattle.worked_days.specs.Days.{there}

-- It departs in 0 to 2 and arrives in 5 to 7; its legs take 1 and 3 periods.
abbrev leg_in : Leg
leg_in = record { from = 0; to = 1; least = 1 }

abbrev leg_out : Leg
leg_out = record { from = 1; to = 2; least = 3 }

abbrev flight : Flight
flight = record there { sa = 5; mg = 2; md = 4; legs = leg_in ∷ leg_out ∷ [] }

abbrev open_at : ℕ → ℕ → Bool → Access
open_at lo hi must = record { window = Some (record { lo = lo; hi = hi }); must = must }

-- in the root box of a day of 8 periods the ends must be entered, and the sector may be at any time
root_at_origin : root_access 8 flight 0 ≡ open_at 0 2 true
root_at_origin = refl

root_at_sector : root_access 8 flight 1 ≡ open_at 0 7 false
root_at_sector = refl

root_at_destination : root_access 8 flight 2 ≡ open_at 5 7 true
root_at_destination = refl

root_past_the_nodes : root_access 8 flight 3 ≡ closed
root_past_the_nodes = refl

-- The sector may be entered one period after the origin, and three before the destination.
sector_from_origin : from_entry (root_access 8 flight 1).window
    (entry_of (root_access 8 flight 0).window 1) ≡ Some (record { lo = 1; hi = 7 })
sector_from_origin = refl

sector_to_destination : below_limit (Some (record { lo = 1; hi = 7 }))
    (limit_of (root_access 8 flight 2).window 3) ≡ Some (record { lo = 1; hi = 4 })
sector_to_destination = refl

abbrev tight_row : ℕ → Access
tight_row zero = open_at 0 2 true
tight_row (suc zero) = open_at 1 4 false
tight_row (suc (suc zero)) = open_at 5 7 true
tight_row (suc (suc (suc n))) = closed

same_window : (a b : Window) → Some a ≡ Some b → a ≡ b
same_window a b e = cc

ways_in : (n : ℕ) (window : Window) → 0 < n → (tight_row n).window ≡ Some window
    → Any (IsLegIn tight_row n window) flight.legs
ways_in zero window pos is = absurd (omega arith)
ways_in (suc zero) window pos is =
    let same = same_window (record { lo = 1; hi = 4 }) window is in
    subst (λ w. Any (IsLegIn tight_row 1 w) flight.legs) same
    (any_here (IsLegIn tight_row 1 (record { lo = 1; hi = 4 })) leg_in (leg_out ∷ [])
    (record { to = refl; time = omega arith }))
ways_in (suc (suc zero)) window pos is =
    let same = same_window (record { lo = 5; hi = 7 }) window is in
    subst (λ w. Any (IsLegIn tight_row 2 w) flight.legs) same
    (any_there (IsLegIn tight_row 2 (record { lo = 5; hi = 7 })) leg_in (leg_out ∷ [])
    (any_here (IsLegIn tight_row 2 (record { lo = 5; hi = 7 })) leg_out []
    (record { to = refl; time = omega arith })))
ways_in (suc (suc (suc n))) window pos is = absurd cc

ways_out : (n : ℕ) (window : Window) → n + 1 < 3 → (tight_row n).window ≡ Some window
    → Any (IsLegOut tight_row n window) flight.legs
ways_out zero window below is =
    let same = same_window (record { lo = 0; hi = 2 }) window is in
    subst (λ w. Any (IsLegOut tight_row 0 w) flight.legs) same
    (any_here (IsLegOut tight_row 0 (record { lo = 0; hi = 2 })) leg_in (leg_out ∷ [])
    (record { from = refl; time = omega arith }))
ways_out (suc zero) window below is =
    let same = same_window (record { lo = 1; hi = 4 }) window is in
    subst (λ w. Any (IsLegOut tight_row 1 w) flight.legs) same
    (any_there (IsLegOut tight_row 1 (record { lo = 1; hi = 4 })) leg_in (leg_out ∷ [])
    (any_here (IsLegOut tight_row 1 (record { lo = 1; hi = 4 })) leg_out []
    (record { from = refl; time = omega arith })))
ways_out (suc (suc n)) window below is = absurd (omega arith)

all_proper : (n : ℕ) → IsProper (tight_row n).window
all_proper zero = omega arith
all_proper (suc zero) = omega arith
all_proper (suc (suc zero)) = omega arith
all_proper (suc (suc (suc n))) = tt

-- That row is tight.
row_is_tight : IsTightRow flight tight_row
row_is_tight = record {
  proper = all_proper;
  entered = λ n window pos below is. ways_in n window pos is;
  left = λ n window below is. ways_out n window below is;
}

-- Where the sector is closed, a tight row is closed at both ends: its one way is through there.
no_way_out : (row : ℕ → Access) (window : Window) → (row 1).window ≡ None
    → Any (IsLegOut row 0 window) flight.legs → ⊥
no_way_out row window shut any =
    elim (any_cases (IsLegOut row 0 window) leg_in (leg_out ∷ []) any) as (λ _. ⊥) [
      | inl way ↦ rw shut at way.time
      | inr rest ↦ elim (any_cases (IsLegOut row 0 window) leg_out [] rest) as (λ _. ⊥) [
        | inl way ↦ omega (arith, way.from)
        | inr none ↦ any_none (IsLegOut row 0 window) none
      ]
    ]

no_way_in : (row : ℕ → Access) (window : Window) → (row 1).window ≡ None
    → Any (IsLegIn row 2 window) flight.legs → ⊥
no_way_in row window shut any =
    elim (any_cases (IsLegIn row 2 window) leg_in (leg_out ∷ []) any) as (λ _. ⊥) [
      | inl way ↦ omega (arith, way.to)
      | inr rest ↦ elim (any_cases (IsLegIn row 2 window) leg_out [] rest) as (λ _. ⊥) [
        | inl way ↦ rw shut at way.time
        | inr none ↦ any_none (IsLegIn row 2 window) none
      ]
    ]

window_none : (w : Option Window) → ((window : Window) → w ≡ Some window → ⊥) → w ≡ None
window_none None never = refl
window_none (Some window) never = absurd (never window refl)

closed_origin : (row : ℕ → Access) → IsTightRow flight row → (row 1).window ≡ None
    → (row 0).window ≡ None
closed_origin row tight shut =
    window_none (row 0).window
    (λ window is. no_way_out row window shut (tight.left 0 window (omega arith) is))

closed_destination : (row : ℕ → Access) → IsTightRow flight row → (row 1).window ≡ None
    → (row 2).window ≡ None
closed_destination row tight shut =
    window_none (row 2).window
    (λ window is. no_way_in row window shut
    (tight.entered 2 window (omega arith) (omega arith) is))

-- Connections: both ends closed keep a turnaround, one alone doesn't, and two keep it in time.
both_closed : KeepsEnds 2 None None
both_closed = tt

one_closed : KeepsEnds 2 None (Some (record { lo = 0; hi = 9 })) → ⊥
one_closed keeps = keeps

in_time : KeepsEnds 2 (Some (record { lo = 1; hi = 5 })) (Some (record { lo = 3; hi = 7 }))
in_time = (omega arith, omega arith)

late_end : KeepsEnds 2 (Some (record { lo = 1; hi = 6 })) (Some (record { lo = 3; hi = 7 })) → ⊥
late_end keeps = omega (arith, keeps.1)

-- Choices: the periods of the window, and one more where the node needn't be entered.
options_free : options_of (open_at 1 4 false) ≡ 5
options_free = refl

options_must : options_of (open_at 1 4 true) ≡ 4
options_must = refl

options_closed : options_of closed ≡ 1
options_closed = refl

options_none : options_of (record { window = None; must = true }) ≡ 0
options_none = refl

-- Splits at the sector, after 2: it is entered in 1 or 2, or else in 3, 4 or never.
abbrev tight_box : Box
tight_box f = tight_row

branching : IsBranching (tight_box 0 1) 2
branching = record {
  window = record { lo = 1; hi = 4 };
  is_open = refl;
  from = omega arith;
  to = omega arith;
  later = λ must. absurd cc;
}

early_side : early_branch 0 1 2 tight_box 0 1 ≡ open_at 1 2 true
early_side = refl

late_side : late_branch 0 1 2 tight_box 0 1 ≡ open_at 3 4 false
late_side = refl

other_node : early_branch 0 1 2 tight_box 0 2 ≡ open_at 5 7 true
other_node = refl

other_flight : late_branch 0 1 2 tight_box 1 1 ≡ open_at 1 4 false
other_flight = refl

-- at the last period nothing is left of the late side
nothing_late : late_branch 0 1 4 tight_box 0 1 ≡ closed
nothing_late = refl
