-- Cuts of a flight with six nodes: which there are, and their rows.
use Rattle.std.proofs.Common.{◌≡◌, ℕ, true, false, [], ◌∷◌, pos, refl}
use Rattle.flow_types.specs.declared.flight.Leg.{Leg}
use Rattle.flow_types.specs.declared.parts.Parts.{Parts}
use Rattle.bytime_model.specs.declared.variables.Var.TheVariants.{By}
use Rattle.bytime_model.specs.Rows.{minus_one, one, term_of}
use Rattle.worked_days.specs.Days.{there, two_flights}
use Rattle.cut_rows.specs.declared.names.CutName.TheVariants.{Apart, Departed, Heads}
use Rattle.cut_rows.specs.Cuts.{cut_row, is_cut}

abbrev leg_with : ℕ → ℕ → ℕ → Leg
leg_with from to least = record { from = from; to = to; least = least }

-- node 2 is entered from two nodes, 3 and 4 from node 1 alone
abbrev knot : Parts
knot = record (two_flights 1 9 9) {
  flights = record there {
    nodes = 0 ∷ 2 ∷ 3 ∷ 4 ∷ 5 ∷ 1 ∷ [];
    legs = leg_with 0 1 2 ∷ leg_with 0 2 1 ∷ leg_with 1 2 0 ∷ leg_with 1 3 4 ∷ leg_with 1 4 1
        ∷ leg_with 2 5 2 ∷ leg_with 3 5 0 ∷ leg_with 4 5 3 ∷ [];
  } ∷ [];
}

two_heads : cut_row knot (Heads 0 1 2 (3 ∷ 4 ∷ [])) ≡ record {
  terms = term_of one (By 0 3 6) ∷ term_of one (By 0 4 3) ∷ term_of minus_one (By 0 1 2) ∷ [];
  limit = pos 0;
}
two_heads = refl

-- a leg that ends past the day counts at its end
late_heads : cut_row knot (Heads 0 1 5 (3 ∷ 4 ∷ [])) ≡ record {
  terms = term_of one (By 0 3 7) ∷ term_of one (By 0 4 6) ∷ term_of minus_one (By 0 1 5) ∷ [];
  limit = pos 0;
}
late_heads = refl

are_two_heads : is_cut knot (Heads 0 1 2 (3 ∷ 4 ∷ [])) ≡ true
are_two_heads = refl

is_one_head : is_cut knot (Heads 0 1 2 (3 ∷ [])) ≡ true
is_one_head = refl

-- not one with another predecessor too, none, out of order, or past the day
entered_from_elsewhere : is_cut knot (Heads 0 0 1 (1 ∷ 2 ∷ [])) ≡ false
entered_from_elsewhere = refl

no_head : is_cut knot (Heads 0 1 2 []) ≡ false
no_head = refl

out_of_order : is_cut knot (Heads 0 1 2 (4 ∷ 3 ∷ [])) ≡ false
out_of_order = refl

past_the_day : is_cut knot (Heads 0 1 8 (3 ∷ [])) ≡ false
past_the_day = refl

three_apart : cut_row knot (Apart 0 3 (2 ∷ 3 ∷ 4 ∷ [])) ≡ record {
  terms = term_of one (By 0 2 3) ∷ term_of one (By 0 3 3) ∷ term_of one (By 0 4 3) ∷ [];
  limit = pos 1;
}
three_apart = refl

are_three_apart : is_cut knot (Apart 0 3 (2 ∷ 3 ∷ 4 ∷ [])) ≡ true
are_three_apart = refl

leads_on : is_cut knot (Apart 0 3 (1 ∷ 2 ∷ [])) ≡ false
leads_on = refl

one_alone : is_cut knot (Apart 0 3 (2 ∷ [])) ≡ false
one_alone = refl

departed : cut_row knot (Departed 0 5 4) ≡ record {
  terms = term_of one (By 0 5 4) ∷ term_of minus_one (By 0 0 1) ∷ [];
  limit = pos 0;
}
departed = refl

-- so soon no one can have come
too_soon : cut_row knot (Departed 0 5 2) ≡ record {
  terms = term_of one (By 0 5 2) ∷ [];
  limit = pos 0;
}
too_soon = refl

not_the_first : is_cut knot (Departed 0 0 2) ≡ false
not_the_first = refl

no_such_node : is_cut knot (Departed 0 6 7) ≡ false
no_such_node = refl

no_such_flight : is_cut knot (Departed 1 3 7) ≡ false
no_such_flight = refl
