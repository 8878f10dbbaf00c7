-- What a row has in each column.
use Rattle.std.proofs.Common.{◌≡◌, ℕ, zero, suc, ◌<◌, ◌≤◌, ◌==◌, List, [], ◌∷◌, length, get_or, drop, All, ℤ, pos, ◌+ℤ◌, refl, ap, ◌∙◌, arith}
use Rattle.std.proofs.lemmas.Int.{ints}
use Rattle.std.proofs.lemmas.Bool.{cond-true, cond-false, eq-eqb, ne_eqb}
use Rattle.std.proofs.lemmas.List.Elements.{All-tail}
use Rattle.row_arena.specs.declared.entry.Entry.{Entry}
use Rattle.row_arena.specs.Rows.{IsRow, entry_at, reach, value_in}

-- every entry is in a later column
pub record IsAfter (k : ℕ) (row : List Entry) : Type 0 where
  pub each : All (λ entry. k < entry.column) row

pub after_tail : (k : ℕ) (e : Entry) (row : List Entry) → IsAfter k (e ∷ row) → IsAfter k row
after_tail k e row after = record {
  each = All-tail (λ (a : Entry). k < a.column) e row after.each;
}

pub after_first : (k : ℕ) (e : Entry) (row : List Entry) → IsAfter k (e ∷ row) → k < e.column
after_first k e row after = after.each 0 e (omega arith)

pub after_less : (k c : ℕ) (row : List Entry) → k ≤ c → IsAfter c row → IsAfter k row
after_less k c row le after = record {
  each = λ i d within. let h = after.each i d within in omega arith;
}

-- a row, said of its entries in their order
pub first_is_least : (e : Entry) (row : List Entry) → IsRow (e ∷ row) → IsAfter e.column row
first_is_least e row is = record {
  each = λ i d within. is.ascending 0 (suc i) d (omega arith) (omega (arith, within));
}

pub row_tail : (e : Entry) (row : List Entry) → IsRow (e ∷ row) → IsRow row
row_tail e row is = record {
  ascending = λ i j d below within.
      is.ascending (suc i) (suc j) d (omega (arith, below)) (omega (arith, within));
  no_zeros = λ i d within. is.no_zeros (suc i) d (omega (arith, within));
  near = λ i d within. is.near (suc i) d (omega (arith, within));
}

pub row_drop : (n : ℕ) (row : List Entry) → IsRow row → IsRow (drop n row)
row_drop zero row is = is
row_drop (suc n) [] is = is
row_drop (suc n) (e ∷ row) is = row_drop n row (row_tail e row is)

zero_plus : (z : ℤ) → pos 0 +ℤ z ≡ z
zero_plus z = omega (arith, ints)

pub plus_zero : (z : ℤ) → z +ℤ pos 0 ≡ z
plus_zero z = omega (arith, ints)

pub value_here : (k : ℕ) (e : Entry) → e.column ≡ k → value_in k e ≡ e.value
value_here k e same = cond-true (e.column == k) e.value (pos 0) (eq-eqb e.column k same)

pub value_elsewhere : (k : ℕ) (e : Entry) → (e.column ≡ k → ⊥) → value_in k e ≡ pos 0
value_elsewhere k e other = cond-false (e.column == k) e.value (pos 0) (ne_eqb e.column k other)

pub entry_later : (k : ℕ) (e : Entry) (row : List Entry) → (e.column ≡ k → ⊥)
    → entry_at (e ∷ row) k ≡ entry_at row k
entry_later k e row other =
    ap (λ v. v +ℤ entry_at row k) (value_elsewhere k e other) ∙ zero_plus (entry_at row k)

pub entry_none : (k : ℕ) (row : List Entry) → IsAfter k row → entry_at row k ≡ pos 0
entry_none k [] after = refl
entry_none k (e ∷ row) after =
    let first = after_first k e row after in
    entry_later k e row (λ same. omega arith) ∙ entry_none k row (after_tail k e row after)

pub entry_first : (k : ℕ) (e : Entry) (row : List Entry) → e.column ≡ k → IsAfter k row
    → entry_at (e ∷ row) k ≡ e.value
entry_first k e row same after =
    ap (λ v. v +ℤ entry_at row k) (value_here k e same)
    ∙ ap (λ v. e.value +ℤ v) (entry_none k row after) ∙ plus_zero e.value

pub entry_past : (k : ℕ) (row : List Entry) → reach row ≤ k → entry_at row k ≡ pos 0
entry_past k [] past = refl
entry_past k (e ∷ row) past =
    entry_later k e row (λ same. omega arith) ∙ entry_past k row (omega arith)

-- the entry at a position of a row
pub entry_there : (row : List Entry) (i : ℕ) (d : Entry) → IsRow row → i < length row
    → entry_at row (get_or row i d).column ≡ (get_or row i d).value
entry_there [] i d is within = absurd (omega (arith, within))
entry_there (e ∷ row) zero d is within =
    entry_first e.column e row refl (first_is_least e row is)
entry_there (e ∷ row) (suc i) d is within =
    let later : e.column < (get_or row i d).column =
    (first_is_least e row is).each i d (omega (arith, within)) in
    entry_later (get_or row i d).column e row (λ same. omega arith)
    ∙ entry_there row i d (row_tail e row is) (omega (arith, within))

-- no entry between two neighbours, before the first or after the last
pub entry_absent : (row : List Entry) (k i : ℕ) → i ≤ length row → IsRow row
    → ((j : ℕ) (d : Entry) → j < i → (get_or row j d).column < k)
    → ((j : ℕ) (d : Entry) → i ≤ j → j < length row → k < (get_or row j d).column)
    → entry_at row k ≡ pos 0
entry_absent [] k i within is before after = refl
entry_absent (e ∷ row) k zero within is before after = entry_none k (e ∷ row) (record {
  each = λ j d inside. after j d (omega arith) inside;
})
entry_absent (e ∷ row) k (suc i) within is before after =
    let first : e.column < k = before 0 e (omega arith) in
    entry_later k e row (λ same. omega arith)
    ∙ entry_absent row k i (omega (arith, within)) (row_tail e row is)
    (λ j d below. before (suc j) d (omega arith))
    (λ j d above inside. after (suc j) d (omega arith) (omega (arith, inside)))
