-- Each value of a row divided, one after the other.
use Rattle.std.proofs.Common.{◌≡◌, ℕ, ◌+◌, ◌<◌, ◌≤◌, List, [], ◌∷◌, ◌++◌, length, set, get_or, take, drop, sym, ap, ◌∙◌, arith}
use Rattle.std.proofs.lemmas.List.{drop-drop, drop-set-lt, get_or-drop, map_more, map_push, take_all, take_more_set}
use Rattle.row_arena.specs.declared.entry.Entry.{Entry}
use Rattle.row_arena.specs.declared.products.WideEntry.{WideEntry}
use Rattle.row_arena.specs.Combining.{entry_by}
use Rattle.row_arena.specs.Products.{divided_by, entries_of, entry_of}

module _ (divisor : ℕ) (old xs : List WideEntry) (k : ℕ) where
  pub divided_all : length xs ≡ length old → length old ≤ k
      → entries_of (take k xs) ≡ divided_by divisor (entries_of (take k old))
      → entries_of xs ≡ divided_by divisor (entries_of old)
  divided_all same past is =
      ap entries_of (sym (take_all k xs (omega (arith, same, past)))) ∙ is
      ∙ ap (λ (l : List WideEntry). divided_by divisor (entries_of l)) (take_all k old past)

  pub divided_more : (w : WideEntry) (d : WideEntry) → length xs ≡ length old → k < length old
      → entries_of (take k xs) ≡ divided_by divisor (entries_of (take k old))
      → get_or xs k d ≡ get_or old k d
      → entry_of w ≡ entry_by divisor (entry_of (get_or xs k d))
      → entries_of (take (k + 1) (set xs k w))
      ≡ divided_by divisor (entries_of (take (k + 1) old))
  divided_more w d same within before read is =
      ap entries_of (take_more_set xs k w (omega (arith, within, same)))
      ∙ map_push entry_of (take k xs) w
      ∙ ap (λ (l : List Entry). l ++ entry_of w ∷ []) before
      ∙ ap (λ (e : Entry). divided_by divisor (entries_of (take k old)) ++ e ∷ [])
      (is ∙ ap (λ (v : WideEntry). entry_by divisor (entry_of v)) read)
      ∙ sym (map_push (entry_by divisor) (entries_of (take k old)) (entry_of (get_or old k d)))
      ∙ ap (divided_by divisor) (sym (map_more entry_of old k d within))

  read_same : (d : WideEntry) → drop k xs ≡ drop k old → get_or xs k d ≡ get_or old k d
  read_same d same =
      sym (at xs d) ∙ ap (λ (l : List WideEntry). get_or l 0 d) same ∙ at old d
    where
      at : (l : List WideEntry) (e : WideEntry) → get_or (drop k l) 0 e ≡ get_or l k e
      at l e = get_or-drop k l 0 e ∙ ap (λ n. get_or l n e) (plus_none k)
        where
          plus_none : (n : ℕ) → n + 0 ≡ n
          plus_none n = omega arith

  pub divided_step : (w : WideEntry) (d : WideEntry) → length xs ≡ length old → k < length old
      → (entries_of (take k xs) ≡ divided_by divisor (entries_of (take k old)))
      × (drop k xs ≡ drop k old)
      → entry_of w ≡ entry_by divisor (entry_of (get_or xs k d))
      → (entries_of (take (k + 1) (set xs k w))
      ≡ divided_by divisor (entries_of (take (k + 1) old)))
      × (drop (k + 1) (set xs k w) ≡ drop (k + 1) old)
  divided_step w d same within before is = (
    divided_more w d same within before.0 (read_same d before.1) is,
    drop-set-lt (k + 1) xs k w (omega arith) ∙ sym (drop-drop 1 k xs)
        ∙ ap (drop 1) before.1 ∙ drop-drop 1 k old,
  )
