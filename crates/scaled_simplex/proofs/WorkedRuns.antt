-- The run of a small program, computed: two columns of cost 1 each that are at most 1, and of which
-- one is wanted.
use Rattle.std.proofs.Common.{◌≡◌, ℕ, [], ◌∷◌, None, Some, ℤ, pos, neg_ℤ, refl}
use Rattle.row_arena.specs.declared.entry.Entry.{Entry}
use Rattle.scaled_simplex.specs.declared.end.End.TheVariants.{Cut, Infeasible, Limit, Optimal, Wide}
use Rattle.scaled_simplex.specs.Program.{Problem}
use Rattle.scaled_simplex.specs.Run.{multiplier_in, simplex_run, value_in, weight_in}

abbrev term : ℕ → ℤ → Entry
term column value = record { column = column; value = value }

abbrev wanted : ℕ → Problem
wanted n = record {
  costs = pos 1 ∷ pos 1 ∷ [];
  constant = pos 0;
  constraints =
      record { terms = term 0 (neg_ℤ (pos 1)) ∷ term 1 (neg_ℤ (pos 1)) ∷ []; limit = neg_ℤ (pos n) }
      ∷ record { terms = term 0 (pos 1) ∷ []; limit = pos 1 }
      ∷ record { terms = term 1 (pos 1) ∷ []; limit = pos 1 }
      ∷ [];
}

-- one of them costs 1
optimal : (simplex_run (wanted 1) 10 100 None).end ≡ Optimal
optimal = refl

worth_one : value_in (wanted 1) (simplex_run (wanted 1) 10 100 None) ≡ pos 1
worth_one = refl

weight_one : weight_in (wanted 1) (simplex_run (wanted 1) 10 100 None) ≡ pos 1
weight_one = refl

-- by the first constraint alone
first_tells : multiplier_in (wanted 1) (simplex_run (wanted 1) 10 100 None) 0 ≡ pos 1
first_tells = refl

second_tells_nothing : multiplier_in (wanted 1) (simplex_run (wanted 1) 10 100 None) 1 ≡ pos 0
second_tells_nothing = refl

no_pivot_left : (simplex_run (wanted 1) 0 100 None).end ≡ Limit
no_pivot_left = refl

reached : (simplex_run (wanted 1) 10 100 (Some (pos 0))).end ≡ Cut
reached = refl

-- three can't be had
infeasible : (simplex_run (wanted 3) 10 100 None).end ≡ Infeasible
infeasible = refl

no_weight : weight_in (wanted 3) (simplex_run (wanted 3) 10 100 None) ≡ pos 0
no_weight = refl

-- the row that no column can repair: at most 2 of what must be 3
unrepaired : value_in (wanted 3) (simplex_run (wanted 3) 10 100 None) ≡ neg_ℤ (pos 1)
unrepaired = refl

-- the first tableau has 13 entries
no_room : (simplex_run (wanted 1) 10 12 None).end ≡ Wide
no_room = refl

no_room_later : (simplex_run (wanted 1) 10 13 None).end ≡ Wide
no_room_later = refl
