-- A list in which a window is written over.
use Rattle.std.proofs.Common.{◌≡◌, ◌⊎◌, ℕ, suc, ◌+◌, ◌-◌, ◌<◌, ◌≤◌, List, [], ◌∷◌, ◌++◌, length, get_or, set, drop, take, refl, sym, ap, ◌∙◌, inl, inr, arith, length-append, length-take-le, length-drop, take-append-drop, take-take, take_at, drop_at, drop-drop}
use Rattle.std.proofs.lemmas.List.{append_assoc, drop-append-le, drop-take, get_or-drop, get_or-take, take-append-le}
use lib.Seq.{set_split}
use Rattle.row_arena.specs.Shelves.{written}

module _ {C : Type 0} (cs : List C) (at : ℕ) (xs : List C) where
  -- the list before the window, then what is written
  abbrev head : List C
  head = take at cs ++ xs

  head_length : at ≤ length cs → length head ≡ at + length xs
  head_length within =
      let front = length-take-le at cs within in
      let whole = length-append (take at cs) xs in
      omega (arith, front, whole)

  from_head : written cs at xs ≡ head ++ drop (at + length xs) cs
  from_head = sym (append_assoc (take at cs) xs (drop (at + length xs) cs))

  pub written_length : at + length xs ≤ length cs → length (written cs at xs) ≡ length cs
  written_length within =
      let whole = length-append head (drop (at + length xs) cs) in
      let front = head_length (omega arith) in
      let back = length-drop (at + length xs) cs in
      let same = ap length from_head in
      omega (arith, whole, front, back, same)

  -- what the window has then
  pub window_has : at ≤ length cs → take (length xs) (drop at (written cs at xs)) ≡ xs
  window_has within =
      ap (λ (l : List C). take (length xs) l)
      (drop_at (take at cs) (xs ++ drop (at + length xs) cs) at (length-take-le at cs within))
      ∙ take_at xs (drop (at + length xs) cs) (length xs) refl

  -- from the end of the window on all is as before
  pub behind : (n : ℕ) → at ≤ length cs → at + length xs ≤ n
      → drop n (written cs at xs) ≡ drop n cs
  behind n within after =
      let r = n - (at + length xs) in
      let here : at + length xs + r ≡ n = omega (arith, after) in
      ap (λ k. drop k (written cs at xs)) (sym here)
      ∙ sym (drop-drop r (at + length xs) (written cs at xs))
      ∙ ap (λ (l : List C). drop r l)
      (ap (λ (l : List C). drop (at + length xs) l) from_head
      ∙ drop_at head (drop (at + length xs) cs) (at + length xs) (head_length within))
      ∙ drop-drop r (at + length xs) cs
      ∙ ap (λ k. drop k cs) here

  -- a run that ends before the window is as before, and so is one behind it
  pub run_before : (from len : ℕ) → from + len ≤ at → at ≤ length cs
      → take len (drop from (written cs at xs)) ≡ take len (drop from cs)
  run_before from len before within =
      let rest = xs ++ drop (at + length xs) cs in
      let front = length-take-le at cs within in
      let m = at - from in
      let sum : from + m ≡ at = omega (arith, before) in
      let size = length-drop from (take at cs) in
      ap (λ (l : List C). take len l) (drop-append-le from (take at cs) rest (omega (arith, front)))
      ∙ take-append-le len (drop from (take at cs)) rest (omega (arith, front, size))
      ∙ ap (λ k. take len (drop from (take k cs))) (sym sum)
      ∙ ap (λ (l : List C). take len l) (drop-take from m cs)
      ∙ take-take len m (drop from cs) (omega (arith, before))

  pub run_behind : (from len : ℕ) → at + length xs ≤ from → at ≤ length cs
      → take len (drop from (written cs at xs)) ≡ take len (drop from cs)
  run_behind from len after within = ap (λ (l : List C). take len l) (behind from within after)

  pub run_apart : (from len : ℕ) → (from + len ≤ at) ⊎ (at + length xs ≤ from)
      → at ≤ length cs → take len (drop from (written cs at xs)) ≡ take len (drop from cs)
  run_apart from len (inl before) within = run_before from len before within
  run_apart from len (inr after) within = run_behind from len after within

  -- one more is written
  pub written_more : (y : C) → at + length xs < length cs
      → set (written cs at xs) (at + length xs) y ≡ written cs at (xs ++ y ∷ [])
  written_more y within =
      let i = at + length xs in
      let long = written_length (omega arith) in
      let more = length-append xs (y ∷ []) in
      set_split (written cs at xs) i y (omega (arith, long))
      ∙ ap (λ (l : List C). l ++ y ∷ drop (suc i) (written cs at xs))
      (ap (λ (l : List C). take i l) from_head
      ∙ take_at head (drop i cs) i (head_length (omega arith)))
      ∙ ap (λ (l : List C). head ++ y ∷ l) (behind (suc i) (omega arith) (omega arith))
      ∙ append_assoc (take at cs) xs (y ∷ drop (suc i) cs)
      ∙ ap (λ (l : List C). take at cs ++ l) (sym (append_assoc xs (y ∷ []) (drop (suc i) cs)))
      ∙ ap (λ k. take at cs ++ ((xs ++ y ∷ []) ++ drop k cs)) {x = suc i}
      (omega (arith, more))

-- nothing is written
pub written_none : {C : Type 0} (cs : List C) (at : ℕ) → written cs at [] ≡ cs
written_none cs at = ap (λ k. take at cs ++ drop k cs) {x = at + 0} (omega arith)
    ∙ take-append-drop at cs

-- an item of a run
pub run_item : {C : Type 0} (cs : List C) (from len k : ℕ) (d : C) → k < len
    → get_or (take len (drop from cs)) k d ≡ get_or cs (from + k) d
run_item cs from len k d within = get_or-take len (drop from cs) k d within
    ∙ get_or-drop from cs k d

pub length_run : {C : Type 0} (from len : ℕ) (cs : List C) → from + len ≤ length cs
    → length (take len (drop from cs)) ≡ len
length_run from len cs within =
    let left = length-drop from cs in
    length-take-le len (drop from cs) (omega (arith, left, within))
