-- What is written of a pair.
use Rattle.std.proofs.Common.{◌≡◌, ◌≢◌, ℕ, ◌+◌, ◌<◌, ◌≤◌, ◌^◌, true, false, nat_lt, None, Some, List, [], ◌∷◌, ◌++◌, All, length, map, set, take, pos, nat_abs, refl, sym, ap, ◌∙◌, subst, arith}
use Rattle.std.specs.List.{find}
use Rattle.std.specs.Ordering.{int_eq}
use Rattle.std.proofs.lemmas.Bool.{cond-false, cond-true, le-ltb}
use Rattle.std.proofs.lemmas.List.{map-append, take_more_set}
use Rattle.std.proofs.lemmas.List.Elements.{All-push, All-tail}
use Rattle.row_arena.specs.declared.entry.Entry.{Entry}
use Rattle.row_arena.specs.declared.pair.Pair.{Pair}
use Rattle.row_arena.specs.declared.products.Factors.{Factors}
use Rattle.row_arena.specs.declared.products.WideEntry.{WideEntry}
use Rattle.row_arena.specs.Arena.{is_far}
use Rattle.row_arena.specs.Combining.{difference, divided, divisor_of}
use Rattle.row_arena.specs.Products.{AreWide, came_of, difference_in, entries_of, first_entries}
use Rattle.row_arena.specs.Rows.{most_entry, unless_zero}
use Rattle.row_arena.proofs.DifferenceRows.{difference_no_zeros}
use Rattle.row_arena.proofs.ReduceFacts.{near_divided, unmapped}

module _ {X : Type 0} (entry : X → Entry) (by : Factors) (pair : Pair) (item : X)
    (came : entry item ≡ came_of by pair) (count : ℕ) (out : List X) where
  abbrev more : List Entry
  more = difference_in by.target by.pivot pair

  as_item : unless_zero (entry item).column (entry item).value ≡ more
  as_item = ap (λ (e : Entry). unless_zero e.column e.value) came

  append_none : (l : List Entry) → l ++ [] ≡ l
  append_none [] = refl
  append_none (e ∷ l) = ap (λ m. e ∷ m) (append_none l)

  -- nothing is written
  pub none_put : int_eq (entry item).value (pos 0) ≡ true
      → first_entries entry count out ≡ first_entries entry count out ++ more
  none_put zero =
      sym (append_none (first_entries entry count out))
      ∙ ap (λ (l : List Entry). first_entries entry count out ++ l)
      (sym (cond-true (int_eq (entry item).value (pos 0)) [] (one ∷ []) zero) ∙ as_item)
    where
      one : Entry
      one = record { column = (entry item).column; value = (entry item).value }

  -- or one more number
  pub one_put : int_eq (entry item).value (pos 0) ≡ false → count < length out
      → first_entries entry (count + 1) (set out count item) ≡ first_entries entry count out ++ more
  one_put some room =
      ap (map entry) (take_more_set out count item room)
      ∙ map-append entry (take count out) (item ∷ [])
      ∙ ap (λ (l : List Entry). first_entries entry count out ++ l)
      (sym (cond-false (int_eq (entry item).value (pos 0)) [] (entry item ∷ []) some) ∙ as_item)

  pub kept_put : (IsKept : X → Type 0) → IsKept item → count < length out
      → All IsKept (take count out) → All IsKept (take (count + 1) (set out count item))
  kept_put IsKept kept room before =
      subst (All IsKept) (sym (take_more_set out count item room))
      (All-push IsKept (take count out) item before kept)

-- entries are their own entries
pub own_entries : (row whole : List Entry) → map (λ (e : Entry). e) row ≡ whole → row ≡ whole
own_entries row whole same = sym (as_they_are row) ∙ same
  where
    as_they_are : (l : List Entry) → map (λ (e : Entry). e) l ≡ l
    as_they_are [] = refl
    as_they_are (e ∷ l) = ap (λ m. e ∷ m) (as_they_are l)

-- none of these is too far from 0
none_far : (row : List Entry) → All (λ (e : Entry). nat_abs e.value ≤ most_entry) row
    → find is_far row ≡ None
none_far [] near = refl
none_far (e ∷ row) near =
    cond-false (is_far e) (Some e) (find is_far row)
    (not_far (nat_abs e.value) (near 0 e (omega arith)))
    ∙ none_far row (All-tail (λ (e : Entry). nat_abs e.value ≤ most_entry) e row near)
  where
    not_far : (n : ℕ) → n ≤ most_entry → nat_lt most_entry n ≡ false
    not_far n le = le-ltb most_entry n le

-- nor what they are divided
pub none_far_divided : (row whole : List Entry) → row ≡ whole
    → All (λ (e : Entry). nat_abs e.value ≤ most_entry) row → find is_far (divided whole) ≡ None
none_far_divided row whole same near =
    ap (λ (l : List Entry). find is_far (divided l)) (sym same)
    ∙ none_far (divided row) (near_divided (divisor_of row) row near)

-- what has come of two rows
pub no_zeros_came : (by : Factors) (t q row : List Entry)
    → row ≡ difference by.target by.pivot t q → All (λ (e : Entry). e.value ≢ pos 0) row
no_zeros_came by t q row same =
    subst (All (λ (e : Entry). e.value ≢ pos 0)) (sym same)
    (difference_no_zeros by.target by.pivot t q)

pub wide_came : (by : Factors) (t q : List Entry) (wides : List WideEntry)
    → entries_of wides ≡ difference by.target by.pivot t q
    → All (λ (w : WideEntry). nat_abs w.value < 2 ^ 126) wides → AreWide wides
wide_came by t q wides same near = record {
  no_zeros = unmapped wides (λ (e : Entry). e.value ≢ pos 0)
      (no_zeros_came by t q (entries_of wides) same);
  near = near;
}
