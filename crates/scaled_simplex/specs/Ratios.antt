-- The best candidate for entering, entry by entry of the leaving row.
use Rattle.std.specs.Prelude.{ℕ, ◌≤◌, Bool, ◌&&◌, nat_lt, List, [], ◌∷◌, Option, None, Some, if◌then◌else◌, pos, neg_ℤ, ◌*ℤ◌, int_lt, nat_abs}
use Rattle.row_arena.specs.declared.entry.Entry.{Entry}
use Rattle.row_arena.specs.Rows.{entry_at, most_entry}
use Rattle.scaled_simplex.specs.declared.ratio.Candidate.{Candidate}

abbrev pub candidate_of : List Entry → Entry → Candidate
candidate_of costs entry = record {
  index = entry.column;
  cost = neg_ℤ (entry_at costs entry.column);
  repair = neg_ℤ entry.value;
}

-- neither number is too far from 0
pub record IsNear (candidate : Candidate) : Type 0 where
  pub cost : nat_abs candidate.cost ≤ most_entry
  pub repair : nat_abs candidate.repair ≤ most_entry

-- the first candidate costs less for what it repairs
abbrev pub is_cheaper : Candidate → Candidate → Bool
is_cheaper a b = int_lt (a.cost *ℤ b.repair) (b.cost *ℤ a.repair)

abbrev pub cheaper : Option Candidate → Candidate → Option Candidate
cheaper None next = Some next
cheaper (Some best) next = if is_cheaper next best then Some next else Some best

-- the better one of the best so far and what the entry stands for, where it may enter
abbrev pub considered : List Entry → ℕ → Option Candidate → Entry → Option Candidate
considered costs right best entry =
    if int_lt entry.value (pos 0) && nat_lt entry.column right
    then cheaper best (candidate_of costs entry) else best

abbrev pub best_from : List Entry → ℕ → Option Candidate → List Entry → Option Candidate
best_from costs right best [] = best
best_from costs right best (entry ∷ row) =
    best_from costs right (considered costs right best entry) row

abbrev pub index_of : Option Candidate → Option ℕ
index_of None = None
index_of (Some candidate) = Some candidate.index
