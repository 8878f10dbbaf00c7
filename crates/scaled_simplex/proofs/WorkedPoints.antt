-- The point of a small program, computed: two columns of cost 1 each, of which twice the one and
-- three times the other have to be 1 at the least. So they are 1/2 and 1/3, which is 3/6 and 2/6.
use Rattle.std.proofs.Common.{◌≡◌, ◌⊎◌, inl, inr, ℕ, ◌<◌, [], ◌∷◌, Some, slice_index_or, ℤ, pos, neg_ℤ, refl, sym, subst, arith}
use Rattle.row_arena.specs.declared.entry.Entry.{Entry}
use Rattle.scaled_simplex.specs.Fractions.{AreNumerators, IsValueAt, bottom_at, top_at}
use Rattle.scaled_simplex.specs.LastTableau.{IsLastTableau, tableau_after}
use Rattle.scaled_simplex.specs.Points.{point_cost}
use Rattle.scaled_simplex.specs.Program.{Problem}
use Rattle.scaled_simplex.specs.Tableau.{Tableau}

abbrev term : ℕ → ℤ → Entry
term column value = record { column = column; value = value }

abbrev parts : Problem
parts = record {
  costs = pos 1 ∷ pos 1 ∷ [];
  constant = pos 0;
  constraints =
      record { terms = term 0 (neg_ℤ (pos 2)) ∷ []; limit = neg_ℤ (pos 1) }
      ∷ record { terms = term 1 (neg_ℤ (pos 3)) ∷ []; limit = neg_ℤ (pos 1) } ∷ [];
}

-- each constraint leaves nothing, and the cost row is 6 times itself: 5 sixths are paid
abbrev last : Tableau
last = record {
  rows =
      (term 0 (pos 2) ∷ term 2 (neg_ℤ (pos 1)) ∷ term 4 (pos 1) ∷ [])
      ∷ (term 1 (pos 3) ∷ term 3 (neg_ℤ (pos 1)) ∷ term 4 (pos 1) ∷ [])
      ∷ (term 2 (neg_ℤ (pos 3)) ∷ term 3 (neg_ℤ (pos 2)) ∷ term 4 (pos 5) ∷ term 5 (pos 6) ∷ [])
      ∷ [];
  basis = 0 ∷ 1 ∷ [];
}

two_pivots : tableau_after parts 100 2 ≡ Some last
two_pivots = refl

it_is_last : IsLastTableau parts last
it_is_last = record {
  cells = 100;
  reached = record { pivots = 2; is = two_pivots };
  none = refl;
}

-- 1/2 and 1/3
first_top : top_at parts last 0 ≡ pos 1
first_top = refl

first_bottom : bottom_at parts last 0 ≡ pos 2
first_bottom = refl

second_bottom : bottom_at parts last 1 ≡ pos 3
second_bottom = refl

-- over 6
abbrev IsOver : ℕ → Type 0
IsOver n = IsValueAt parts last n (slice_index_or (pos 3 ∷ pos 2 ∷ []) n (pos 0)) (pos 6)

over_six : AreNumerators parts last (pos 6) (pos 3 ∷ pos 2 ∷ [])
over_six = record { each = λ column within. by column (either column within) }
  where
    either : (n : ℕ) → n < 2 → (n ≡ 0) ⊎ (n ≡ 1)
    either n small = grind arith

    by : (n : ℕ) → (n ≡ 0) ⊎ (n ≡ 1) → IsOver n
    by n (inl is) = subst IsOver (sym is) refl
    by n (inr is) = subst IsOver (sym is) refl

costs_five : point_cost parts (λ column. slice_index_or (pos 3 ∷ pos 2 ∷ []) column (pos 0))
    (pos 6) ≡ pos 5
costs_five = refl
