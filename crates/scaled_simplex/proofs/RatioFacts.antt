-- The best candidate, entry by entry, is the index that the definition finds.
use Rattle.std.proofs.Common.{◌≡◌, ◌⊎◌, ℕ, zero, suc, ◌+◌, ◌-◌, ◌<◌, ◌≤◌, Bool, true, false, ◌&&◌, List, [], ◌∷◌, length, drop, get_or, nat_abs, ◌*◌, ◌^◌, Option, None, Some, All, if◌then◌else◌, ℤ, pos, neg_ℤ, ◌*ℤ◌, int_lt, refl, sym, ap, ◌∙◌, subst, inl, inr, arith}
use Rattle.std.proofs.lemmas.Bool.{cases_lt, le-ltb, lt-ltb}
use Rattle.std.proofs.lemmas.Int.{unsigned_abs-mul}
use Rattle.std.proofs.lemmas.List.{drop_all, drop_more}
use Rattle.std.proofs.lemmas.Nat.{mul-le}
use Rattle.std.proofs.lemmas.List.Elements.{All-cons, All-head, All-tail}
use Rattle.row_arena.specs.declared.entry.Entry.{Entry}
use Rattle.row_arena.specs.Rows.{IsRow, entry_at, most_entry}
use Rattle.row_arena.specs.Arena.{row_at}
use Rattle.row_arena.proofs.RowFacts.{IsAfter, after_less, entry_first, entry_later, entry_none, first_is_least, row_tail}
use Rattle.scaled_simplex.specs.declared.ratio.Candidate.{Candidate}
use Rattle.scaled_simplex.specs.Program.{Problem}
use Rattle.scaled_simplex.specs.Run.{entering}
use Rattle.scaled_simplex.specs.Tableau.{right_side}
use Rattle.scaled_simplex.specs.Ratios.{best_from, candidate_of, cheaper, considered, index_of, is_cheaper}
use Rattle.scaled_simplex.specs.Search.{better, first_best}

after_cons : (k : ℕ) (entry : Entry) (row : List Entry) → k < entry.column → IsAfter k row
    → IsAfter k (entry ∷ row)
after_cons k entry row before after = record {
  each = All-cons (λ (e : Entry). k < e.column) entry row before after.each;
}

since_next : {k : ℕ} {row : List Entry} → IsAfter k row → All (λ (e : Entry). suc k ≤ e.column) row
since_next after = λ i d within. omega (arith, after.each i d within)

-- positions that don't pass change nothing
module _ (passes : ℕ → Bool) (less : ℕ → ℕ → Bool) where
  passed_over : (k : ℕ) (best : Option ℕ) → passes k ≡ false → better passes less k best ≡ best
  passed_over k None none = rw none refl
  passed_over k (Some best) none = rw none refl

  best_after : (n count : ℕ) → ((j : ℕ) → n ≤ j → j < n + count → passes j ≡ false)
      → first_best passes less (n + count) ≡ first_best passes less n
  best_after n zero none =
      let same : n + 0 ≡ n = omega arith in
      ap (first_best passes less) same
  best_after n (suc count) none =
      let first : first_best passes less (n + suc count) ≡ first_best passes less (suc (n + count))
      = ap (first_best passes less) (next n count) in
      first
      ∙ passed_over (n + count) (first_best passes less (n + count))
      (none (n + count) (omega arith) (omega arith))
      ∙ best_after n count (λ j from below. none j from (omega (arith, below)))
    where
      next : (n count : ℕ) → n + suc count ≡ suc (n + count)
      next n count = omega arith

  best_later : (n c : ℕ) → n ≤ c → ((j : ℕ) → n ≤ j → j < c → passes j ≡ false)
      → first_best passes less c ≡ first_best passes less n
  best_later n c le none =
      ap (first_best passes less) (apart n c le)
      ∙ best_after n (c - n) (λ j from below. none j from (omega (arith, below, le)))
    where
      apart : (n c : ℕ) → n ≤ c → c ≡ n + (c - n)
      apart n c le = omega (arith, le)

module _ (costs row : List Entry) where
  abbrev passes : ℕ → Bool
  passes index = int_lt (entry_at row index) (pos 0)

  abbrev less : ℕ → ℕ → Bool
  less a b =
      int_lt (neg_ℤ (entry_at costs a) *ℤ neg_ℤ (entry_at row b))
      (neg_ℤ (entry_at costs b) *ℤ neg_ℤ (entry_at row a))

  -- what the entry of the row at an index stands for
  abbrev standing : ℕ → Candidate
  standing index = record {
    index = index;
    cost = neg_ℤ (entry_at costs index);
    repair = neg_ℤ (entry_at row index);
  }

  -- it stands for itself
  abbrev IsStanding : Option Candidate → Type 0
  IsStanding None = Unit {0}
  IsStanding (Some candidate) = candidate ≡ standing candidate.index

  -- the best of the indices below a number
  record IsBestBelow (n : ℕ) (best : Option Candidate) : Type 0 where
    found : index_of best ≡ first_best passes less n
    standing_is : IsStanding best

  -- one of the row's entries
  entered : (entry : Entry) → entry_at row entry.column ≡ entry.value
      → candidate_of costs entry ≡ standing entry.column
  entered entry is = ap (λ v. record {
    index = entry.column;
    cost = neg_ℤ (entry_at costs entry.column);
    repair = neg_ℤ v;
  }) (sym is)

  cheaper_is : (best : Option Candidate) (index : ℕ) → IsStanding best → passes index ≡ true
      → (index_of (cheaper best (standing index)) ≡ better passes less index (index_of best))
      × IsStanding (cheaper best (standing index))
  cheaper_is None index is passing = (rw passing refl, refl)
  cheaper_is (Some best) index is passing =
      by (is_cheaper (standing index) best) refl
    where
      same : is_cheaper (standing index) best ≡ less index best.index
      same = ap (is_cheaper (standing index)) is

      by : (b : Bool) → is_cheaper (standing index) best ≡ b
          → (index_of (if b then Some (standing index) else Some best)
          ≡ better passes less index (Some best.index))
          × IsStanding (if b then Some (standing index) else Some best)
      by true e = (rw (passing, sym same ∙ e) refl, refl)
      by false e = (rw (passing, sym same ∙ e) refl, is)

  -- the entry in a column, where the best below the column is known
  module _ (right : ℕ) (entry : Entry) (is : entry_at row entry.column ≡ entry.value)
      (best : Option Candidate) (found : IsBestBelow entry.column best) where
    next_best : (b : Bool) → int_lt entry.value (pos 0) ≡ b
        → IsBestBelow (suc entry.column)
        (if b then cheaper best (candidate_of costs entry) else best)
    next_best true negative =
        let passing : passes entry.column ≡ true = ap (λ v. int_lt v (pos 0)) is ∙ negative in
        subst (λ c. IsBestBelow (suc entry.column) (cheaper best c)) (sym (entered entry is))
        (let step = cheaper_is best entry.column found.standing_is passing in record {
          found = step.0 ∙ ap (better passes less entry.column) found.found;
          standing_is = step.1;
        })
    next_best false negative = record {
      found = found.found
          ∙ sym (passed_over passes less entry.column (first_best passes less entry.column)
          (ap (λ v. int_lt v (pos 0)) is ∙ negative));
      standing_is = found.standing_is;
    }

    considered_best : entry.column < right
        → IsBestBelow (suc entry.column) (considered costs right best entry)
    considered_best below =
        subst (λ b. IsBestBelow (suc entry.column)
        (if int_lt entry.value (pos 0) && b then cheaper best (candidate_of costs entry) else best))
        (sym (lt-ltb entry.column right below))
        (by (int_lt entry.value (pos 0)) refl)
      where
        by : (b : Bool) → int_lt entry.value (pos 0) ≡ b → IsBestBelow (suc entry.column)
            (if b && true then cheaper best (candidate_of costs entry) else best)
        by true e = next_best true e
        by false e = next_best false e

  module _ (right : ℕ) where
    -- an entry past the indices changes nothing
    past_all : (best : Option Candidate) (entry : Entry) → right ≤ entry.column
        → considered costs right best entry ≡ best
    past_all best entry past =
        ap (λ b. if int_lt entry.value (pos 0) && b
        then cheaper best (candidate_of costs entry) else best) (le-ltb entry.column right past)
        ∙ neither (int_lt entry.value (pos 0))
      where
        neither : (b : Bool)
            → (if b && false then cheaper best (candidate_of costs entry) else best)
            ≡ best
        neither true = refl
        neither false = refl

    abbrev IsSince : ℕ → Entry → Type 0
    IsSince n entry = n ≤ entry.column

    -- What is left has what the row has from a number on, which is no greater than the right side.
    record IsLeft (n : ℕ) (best : Option Candidate) (entries : List Entry) : Type 0 where
      is_row : IsRow entries
      since : All (IsSince n) entries
      found : IsBestBelow n best
      within : n ≤ right
      same : (j : ℕ) → n ≤ j → j < right → entry_at row j ≡ entry_at entries j

    none_left : (n : ℕ) (best : Option Candidate) → IsLeft n best [] → IsBestBelow right best
    none_left n best left = record {
      found = left.found.found
          ∙ sym (best_later passes less n right left.within
          (λ j from below. ap (λ v. int_lt v (pos 0)) (left.same j from below)));
      standing_is = left.found.standing_is;
    }

    module _ (entry : Entry) (entries : List Entry) (n : ℕ) (best : Option Candidate)
        (left : IsLeft n best (entry ∷ entries)) where
      least : IsAfter entry.column entries
      least = first_is_least entry entries left.is_row

      from : n ≤ entry.column
      from = All-head (IsSince n) entry entries left.since

      none_before : (j : ℕ) → n ≤ j → j < entry.column → j < right → passes j ≡ false
      none_before j late before below =
          ap (λ v. int_lt v (pos 0))
          (left.same j late below
          ∙ entry_none j (entry ∷ entries) (after_cons j entry entries before
          (after_less j entry.column entries (omega (arith, before)) least)))

      left_within : entry.column < right
          → IsLeft (suc entry.column) (considered costs right best entry) entries
      left_within below = record {
        is_row = row_tail entry entries left.is_row;
        since = since_next least;
        found = considered_best right entry
            (left.same entry.column from below
            ∙ entry_first entry.column entry entries refl least) best
            (record {
              found = left.found.found
                  ∙ sym (best_later passes less n entry.column from
                  (λ j late before. none_before j late before (omega (arith, before, below))));
              standing_is = left.found.standing_is;
            }) below;
        within = omega (arith, below);
        same = λ j late under. left.same j (omega (arith, late, from)) under
            ∙ entry_later j entry entries (λ at. omega (arith, at, late));
      }

      left_past : right ≤ entry.column → IsLeft n (considered costs right best entry) entries
      left_past past =
          subst (λ b. IsLeft n b entries) (sym (past_all best entry past)) (record {
            is_row = row_tail entry entries left.is_row;
            since = All-tail (IsSince n) entry entries left.since;
            found = left.found;
            within = left.within;
            same = λ j late under. left.same j late under
                ∙ entry_later j entry entries (λ at. omega (arith, at, past, under));
          })

      left_next : (m : ℕ) × IsLeft m (considered costs right best entry) entries
      left_next = by (cases_lt entry.column right)
        where
          by : (entry.column < right) ⊎ (right ≤ entry.column)
              → (m : ℕ) × IsLeft m (considered costs right best entry) entries
          by (inl below) = (suc entry.column, left_within below)
          by (inr past) = (n, left_past past)

    best_is : (entries : List Entry) (n : ℕ) (best : Option Candidate) → IsLeft n best entries
        → IsBestBelow right (best_from costs right best entries)
    best_is [] n best left = none_left n best left
    best_is (entry ∷ entries) n best left =
        let next = left_next entry entries n best left in
        best_is entries next.0 (considered costs right best entry) next.1

    pub index_is : IsRow row
        → index_of (best_from costs right None row) ≡ first_best passes less right
    index_is is =
        (best_is row 0 None (record {
          is_row = is;
          since = λ k d within. omega arith;
          found = record { found = refl; standing_is = tt };
          within = omega arith;
          same = λ j late below. refl;
        })).found

-- two numbers that are not too far from 0
pub product_near : (a b : ℤ) → nat_abs a ≤ most_entry → nat_abs b ≤ most_entry
    → nat_abs (a *ℤ b) < 2 ^ 125
product_near a b left right =
    let same : nat_abs (a *ℤ b) ≡ nat_abs a * nat_abs b = unsigned_abs-mul a b in
    let le : nat_abs a * nat_abs b ≤ most_entry * most_entry = mul-le _ _ _ _ left right in
    omega (arith, same, le)

pub entry_of_row : (row : List Entry) (k : ℕ) (d : Entry) → IsRow row → k < length row
    → nat_abs (get_or row k d).value ≤ most_entry
entry_of_row row k d is within = is.near k d within

-- an entry more, and all
pub best_more : (costs : List Entry) (right : ℕ) (row : List Entry) (k : ℕ) (d : Entry)
    (best : Option Candidate) → k < length row
    → best_from costs right best (drop k row) ≡ best_from costs right None row
    → best_from costs right (considered costs right best (get_or row k d)) (drop (k + 1) row)
    ≡ best_from costs right None row
best_more costs right row k d best within is =
    sym (ap (best_from costs right best) (drop_more row k d within)) ∙ is

pub best_all : (costs : List Entry) (right : ℕ) (row : List Entry) (best : Option Candidate)
    → best_from costs right best (drop (length row) row) ≡ best_from costs right None row
    → best ≡ best_from costs right None row
best_all costs right row best is =
    sym (ap (best_from costs right best) (drop_all (length row) row (omega arith))) ∙ is

-- the index that the definition finds
pub index_told : (problem : Problem) (rows : List (List Entry)) (row : List Entry) → IsRow row
    → index_of (best_from (row_at rows (length problem.constraints)) (right_side problem) None row)
    ≡ entering problem (record { rows = rows; basis = [] }) row
index_told problem rows row is =
    index_is (row_at rows (length problem.constraints)) row (right_side problem) is
