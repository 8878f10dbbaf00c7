-- The first rows are rows: their entries ascend, none is 0, none too far from it, and each is at or
-- below the weight's index.
use Rattle.std.proofs.Common.{◌≡◌, ◌≢◌, ℕ, zero, suc, ◌+◌, ◌<◌, ◌≤◌, Bool, true, false, if◌then◌else◌, List, [], ◌∷◌, ◌++◌, length, take, slice_index_or, All, ℤ, pos, neg_ℤ, nat_abs, refl, ap, ◌∙◌, arith}
use Rattle.std.proofs.lemmas.Bool.Decides.{Decides-int_eq, not_from_Decides}
use Rattle.std.proofs.lemmas.Int.{ints}
use Rattle.std.proofs.lemmas.List.{length-take-le, take_more}
use Rattle.std.proofs.lemmas.List.Elements.{All-cons, All-head, All-nil, All-tail, All-weaker}
use Rattle.std.proofs.lemmas.List.Kept.{AllPairs-cons}
use Rattle.std.specs.Ordering.{int_eq}
use Rattle.row_arena.specs.declared.entry.Entry.{Entry}
use Rattle.row_arena.specs.Rows.{IsRow, most_entry, row_from, unless_zero}
use Rattle.scaled_simplex.specs.Program.{Constraint, IsConstraint, IsProblem, Problem, columns}
use Rattle.scaled_simplex.specs.Tableau.{bare_row, constraint_row, constraint_rows, cost_row, one_at, right_side, weight_index}

abbrev pub IsSince : ℕ → Entry → Type 0
IsSince low entry = low ≤ entry.column

abbrev pub IsUpTo : ℕ → Entry → Type 0
IsUpTo end entry = entry.column < end

-- entries of columns from one on, and below another
pub record IsPart (low end : ℕ) (row : List Entry) : Type 0 where
  pub is_row : IsRow row
  pub since : All (IsSince low) row
  pub up_to : All (IsUpTo end) row

pub nothing : (low end : ℕ) → IsPart low end []
nothing low end = record {
  is_row = record {
    ascending = λ i j d less within. absurd (omega (arith, within));
    no_zeros = All-nil (λ entry. entry.value ≢ pos 0);
    near = All-nil (λ entry. nat_abs entry.value ≤ most_entry);
  };
  since = All-nil (IsSince low);
  up_to = All-nil (IsUpTo end);
}

pub entry_before : (entry : Entry) (row : List Entry) (low middle end : ℕ)
    → entry.value ≢ pos 0 → nat_abs entry.value ≤ most_entry → low ≤ entry.column
    → entry.column < middle → middle ≤ end → IsPart middle end row
    → IsPart low end (entry ∷ row)
entry_before entry row low middle end some near from below within is = record {
  is_row = record {
    ascending = AllPairs-cons (λ a b. a.column < b.column) entry row
        (All-weaker (IsSince middle) (λ b. entry.column < b.column)
        (λ b later. omega (arith, below, later)) row is.since) is.is_row.ascending;
    no_zeros = All-cons (λ entry. entry.value ≢ pos 0) entry row some is.is_row.no_zeros;
    near = All-cons (λ entry. nat_abs entry.value ≤ most_entry) entry row near is.is_row.near;
  };
  since = All-cons (IsSince low) entry row from
      (All-weaker (IsSince middle) (IsSince low) (λ b later. omega (arith, from, below, later)) row
      is.since);
  up_to = All-cons (IsUpTo end) entry row (omega (arith, below, within)) is.up_to;
}

pub part_tail : (entry : Entry) (row : List Entry) (low end : ℕ) → IsPart low end (entry ∷ row)
    → IsPart (entry.column + 1) end row
part_tail entry row low end is = record {
  is_row = record {
    ascending = λ i j d less within.
        is.is_row.ascending (suc i) (suc j) d (omega (arith, less)) (omega (arith, within));
    no_zeros = All-tail (λ entry. entry.value ≢ pos 0) entry row is.is_row.no_zeros;
    near = All-tail (λ entry. nat_abs entry.value ≤ most_entry) entry row is.is_row.near;
  };
  since = λ k d within.
      let later = is.is_row.ascending 0 (suc k) d (omega arith) (omega (arith, within)) in
      omega (arith, later);
  up_to = All-tail (IsUpTo end) entry row is.up_to;
}

pub part_wider : (row : List Entry) (low end less more : ℕ) → less ≤ low → end ≤ more
    → IsPart low end row → IsPart less more row
part_wider row low end less more before after is = record {
  is_row = is.is_row;
  since = All-weaker (IsSince low) (IsSince less) (λ b later. omega (arith, before, later)) row
      is.since;
  up_to = All-weaker (IsUpTo end) (IsUpTo more) (λ b below. omega (arith, after, below)) row
      is.up_to;
}

-- one part after another
pub part_append : (first second : List Entry) (low middle end : ℕ) → low ≤ middle → middle ≤ end
    → IsPart low middle first → IsPart middle end second → IsPart low end (first ++ second)
part_append [] second low middle end before after is more =
    part_wider second middle end low end before (omega arith) more
part_append (entry ∷ first) second low middle end before after is more =
    let below = All-head (IsUpTo middle) entry first is.up_to in
    entry_before entry (first ++ second) low (entry.column + 1) end
    (All-head (λ entry. entry.value ≢ pos 0) entry first is.is_row.no_zeros)
    (All-head (λ entry. nat_abs entry.value ≤ most_entry) entry first is.is_row.near)
    (All-head (IsSince low) entry first is.since) (omega arith) (omega (arith, below, after))
    (part_append first second (entry.column + 1) middle end (omega (arith, below)) after
    (part_tail entry first low middle is) more)

pub part_one : (column : ℕ) (value : ℤ) → value ≢ pos 0 → nat_abs value ≤ most_entry
    → IsPart column (column + 1) (record { column = column; value = value } ∷ [])
part_one column value some near =
    entry_before (record { column = column; value = value }) [] column (column + 1) (column + 1)
    some near (omega arith) (omega arith) (omega arith) (nothing (column + 1) (column + 1))

pub part_unless : (column : ℕ) (value : ℤ) → nat_abs value ≤ most_entry
    → IsPart column (column + 1) (unless_zero column value)
part_unless column value near = by (int_eq value (pos 0)) refl
  where
    by : (b : Bool) → int_eq value (pos 0) ≡ b
        → IsPart column (column + 1)
        (if b then [] else record { column = column; value = value } ∷ [])
    by true is = nothing column (column + 1)
    by false isnt =
        part_one column value (not_from_Decides (int_eq value (pos 0))
        (Decides-int_eq value (pos 0)) isnt) near

pub part_from : (f : ℕ → ℤ) (from count : ℕ)
    → ((k : ℕ) → from ≤ k → k < from + count → nat_abs (f k) ≤ most_entry)
    → IsPart from (from + count) (row_from f from count)
part_from f from zero near = nothing from (from + 0)
part_from f from (suc count) near =
    part_append (unless_zero from (f from)) (row_from f (from + 1) count) from (from + 1)
    (from + suc count) (omega arith) (omega arith)
    (part_unless from (f from) (near from (omega arith) (omega arith)))
    (part_wider (row_from f (from + 1) count) (from + 1) (from + 1 + count) (from + 1)
    (from + suc count) (omega arith) (omega arith)
    (part_from f (from + 1) count
    (λ k since below. near k (omega (arith, since)) (omega (arith, below)))))

one_near : nat_abs (pos 1) ≤ most_entry
one_near = omega arith

one_some : pos 1 ≢ pos 0
one_some same = omega (arith, ints, same)

module _ (problem : Problem) where
  pub constraint_part : (k : ℕ) (constraint : Constraint) → k < length problem.constraints
      → IsConstraint (columns problem) constraint
      → IsPart 0 (weight_index problem) (constraint_row problem k constraint)
  constraint_part k constraint small valid =
      part_append constraint.terms
      (one_at (columns problem + k) ++ unless_zero (right_side problem) constraint.limit) 0
      (columns problem) (weight_index problem) (omega arith) (omega arith)
      (record {
        is_row = valid.terms;
        since = λ i d within. omega arith;
        up_to = valid.within;
      })
      (part_append (one_at (columns problem + k))
      (unless_zero (right_side problem) constraint.limit) (columns problem)
      (columns problem + k + 1) (weight_index problem) (omega arith) (omega (arith, small))
      (part_wider (one_at (columns problem + k)) (columns problem + k) (columns problem + k + 1)
      (columns problem) (columns problem + k + 1) (omega arith) (omega arith)
      (part_one (columns problem + k) (pos 1) one_some one_near))
      (part_wider (unless_zero (right_side problem) constraint.limit) (right_side problem)
      (right_side problem + 1) (columns problem + k + 1) (weight_index problem)
      (omega (arith, small)) (omega arith)
      (part_unless (right_side problem) constraint.limit valid.near)))

  pub bare_part : IsProblem problem
      → IsPart (right_side problem) (weight_index problem + 1) (bare_row problem)
  bare_part valid =
      part_append (unless_zero (right_side problem) problem.constant)
      (one_at (weight_index problem)) (right_side problem) (weight_index problem)
      (weight_index problem + 1) (omega arith) (omega arith)
      (part_unless (right_side problem) problem.constant valid.constant)
      (part_one (weight_index problem) (pos 1) one_some one_near)

  turned_near : (cost : ℤ) → nat_abs cost ≤ most_entry → nat_abs (neg_ℤ cost) ≤ most_entry
  turned_near cost near = omega (arith, ints, near)

  pub cost_part : IsProblem problem → IsPart 0 (weight_index problem + 1) (cost_row problem)
  cost_part valid =
      part_append (row_from (λ column. neg_ℤ (slice_index_or problem.costs column (pos 0))) 0
      (columns problem)) (bare_row problem) 0 (columns problem) (weight_index problem + 1)
      (omega arith) (omega arith)
      (part_wider (row_from (λ column. neg_ℤ (slice_index_or problem.costs column (pos 0))) 0
      (columns problem)) 0 (0 + columns problem) 0 (columns problem) (omega arith) (omega arith)
      (part_from (λ column. neg_ℤ (slice_index_or problem.costs column (pos 0))) 0
      (columns problem) (λ k _ below.
      turned_near (slice_index_or problem.costs k (pos 0))
      (valid.costs k (pos 0) (omega (arith, below))).near)))
      (part_wider (bare_row problem) (right_side problem) (weight_index problem + 1)
      (columns problem) (weight_index problem + 1) (omega arith) (omega arith)
      (bare_part valid))

  -- the rows of one constraint more
  rows_append : (a : ℕ) (first : List Constraint) (constraint : Constraint)
      → constraint_rows problem a (first ++ constraint ∷ [])
      ≡ constraint_rows problem a first
      ++ constraint_row problem (a + length first) constraint ∷ []
  rows_append a [] constraint =
      ap (λ (n : ℕ). constraint_row problem n constraint ∷ []) (plus_none a)
    where
      plus_none : (a : ℕ) → a ≡ a + 0
      plus_none a = omega arith
  rows_append a (c ∷ first) constraint =
      ap (λ (rows : List (List Entry)). constraint_row problem a c ∷ rows)
      (rows_append (a + 1) first constraint
      ∙ ap (λ (n : ℕ). constraint_rows problem (a + 1) first
      ++ constraint_row problem n constraint ∷ []) (moved a (length first)))
    where
      moved : (a n : ℕ) → a + 1 + n ≡ a + suc n
      moved a n = omega arith

  pub rows_more : (k : ℕ) (d : Constraint) → k < length problem.constraints
      → constraint_rows problem 0 (take (k + 1) problem.constraints)
      ≡ constraint_rows problem 0 (take k problem.constraints)
      ++ constraint_row problem k (slice_index_or problem.constraints k d) ∷ []
  rows_more k d small =
      ap (constraint_rows problem 0) (take_more problem.constraints k d small)
      ∙ rows_append 0 (take k problem.constraints) (slice_index_or problem.constraints k d)
      ∙ ap (λ (n : ℕ). constraint_rows problem 0 (take k problem.constraints)
      ++ constraint_row problem n (slice_index_or problem.constraints k d) ∷ [])
      (taken k problem.constraints small)
    where
      taken : (k : ℕ) (constraints : List Constraint) → k < length constraints
          → 0 + length (take k constraints) ≡ k
      taken k constraints small =
          let few = length-take-le k constraints (omega (arith, small)) in omega (arith, few)
