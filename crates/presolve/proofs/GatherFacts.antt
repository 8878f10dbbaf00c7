-- Terms that are gathered by column, and the row that they make.
use Rattle.std.proofs.Common.{◌≡◌, ◌≢◌, ◌⊎◌, ℕ, suc, ◌+◌, ◌^◌, ◌<◌, ◌≤◌, ◌==◌, Bool, true, false, not, List, [], ◌∷◌, ◌++◌, length, get_or, take, Some, slice_get, All, if◌then◌else◌, ℤ, pos, ◌+ℤ◌, unsigned_abs, inl, inr, refl, sym, ap, ◌∙◌, subst, arith}
use Rattle.std.proofs.lemmas.Bool.Decides.{Decides-int_eq, eqb_tells}
use Rattle.std.proofs.lemmas.Int.{ints}
use Rattle.std.proofs.lemmas.List.{length-append, length-take-le, take_more}
use Rattle.std.proofs.lemmas.List.Elements.{All-cons, All-filter, All-nil, All-tail, filter_passes}
use Rattle.std.proofs.lemmas.List.Kept.{AllPairs-filter}
use Rattle.std.proofs.lemmas.List.Sums.{sum_by-cons}
use Rattle.std.specs.List.{filter}
use Rattle.std.specs.Ordering.{int_eq}
use Rattle.exact_sums.proofs.SumFacts.{total-push}
use Rattle.flow_types.specs.declared.parts.Parts.{Parts}
use Rattle.row_arena.specs.declared.entry.Entry.{Entry}
use Rattle.row_arena.specs.Rows.{entry_at, unless_zero, value_in}
use Rattle.scaled_simplex.proofs.EntryLaws.{value_other, value_same}
use Rattle.row_arena.proofs.WholeLaws.{linear}
use Rattle.time_windows.specs.Boxes.{Box}
use Rattle.bytime_model.specs.declared.variables.Term.{Term}
use Rattle.bytime_model.specs.declared.variables.Var.{Var}
use Rattle.bytime_model.specs.Left.{left_of}
use Rattle.presolve.specs.declared.numbers.Spot.TheVariants as spot
use Rattle.presolve.specs.Gathering.{AddsTerm, AreGathered, Gathered, IsAscending, IsLanded, IsRaised, IsSpot, is_not_zero, most_factor, most_gathered, size_of}
use Rattle.presolve.specs.Landed.{coefficient_of, entries_from, is_on, is_one, part_fixed, part_on}
use Rattle.presolve.specs.Variables.{columns_of}

module _ (parts : Parts) (box : Box) (term : Term) where
  on_part : (column : Var) (b : Bool)
      → is_on (left_of parts.flights box term.variable) term.variable column ≡ b
      → part_on parts box column term ≡ (if b then term.factor else pos 0)
  on_part column b is = ap (λ c. if c then term.factor else pos 0) is

  one_part : (b : Bool) → is_one (left_of parts.flights box term.variable) ≡ b
      → part_fixed parts box term ≡ (if b then term.factor else pos 0)
  one_part b is = ap (λ c. if c then term.factor else pos 0) is

  pub adds_nothing : (old : Gathered) → IsSpot parts box term.variable spot.Nowhere
      → IsAscending old.entries → AddsTerm parts box term old old
  adds_nothing old is ascending = record {
    at = λ k column here.
        let none = on_part column false (is.on k column here) in omega (arith, linear, none);
    fixed = let none = one_part false is.one in omega (arith, linear, none);
    size = omega arith;
    ascending = ascending;
    within = λ all. all;
  }

  pub adds_fixed : (old new : Gathered) → IsSpot parts box term.variable spot.Surely
      → IsAscending old.entries → new.entries ≡ old.entries
      → new.fixed ≡ old.fixed +ℤ term.factor → AddsTerm parts box term old new
  adds_fixed old new is ascending same sum = record {
    at = λ k column here.
        let none = on_part column false (is.on k column here) in
        let now = ap (λ list. entry_at list k) same in omega (arith, linear, none, now);
    fixed = sum ∙ ap (λ n. old.fixed +ℤ n) (sym (one_part true is.one));
    size = let now = ap unsigned_abs sum in let more = abs_sum old.fixed term.factor in
        let size = ap size_of same in
        omega (arith, now, more, size);
    ascending = subst IsAscending (sym same) ascending;
    within = subst (λ list. All (λ entry. entry.column < length (columns_of parts box)) old.entries
        → All (λ entry. entry.column < length (columns_of parts box)) list) (sym same) (λ all. all);
  }
    where
      abs_sum : (a b : ℤ) → unsigned_abs (a +ℤ b) ≤ unsigned_abs a + unsigned_abs b
      abs_sum a b = omega (arith, ints)

  pub adds_entry : (old : Gathered) (entries : List Entry) (number : ℕ)
      → IsSpot parts box term.variable (spot.On number)
      → number < length (columns_of parts box)
      → IsRaised number term.factor old.entries entries
      → AddsTerm parts box term old (record { entries = entries; fixed = old.fixed })
  adds_entry old entries number is within raised = record {
    at = λ k column here.
        let on = on_part column (number == k) (is.on k column here) in
        raised.at k ∙ ap (λ n. entry_at old.entries k +ℤ n) (sym on);
    fixed = let none = one_part false is.one in omega (arith, linear, none);
    size = let more = raised.size in omega (arith, more);
    ascending = raised.ascending;
    within = raised.within (length (columns_of parts box)) within;
  }

module _ (parts : Parts) (box : Box) where
  pub none_gathered : AreGathered parts box [] (record { entries = []; fixed = pos 0 })
  none_gathered = record {
    at = λ k column here. refl;
    fixed = refl;
    size = omega arith;
    ascending = λ i j d less below. absurd (omega (arith, below));
    within = All-nil (λ (entry : Entry). entry.column < length (columns_of parts box));
  }

  pub gathered_more : (terms : List Term) (i : ℕ) (d : Term) (old new : Gathered)
      → AreGathered parts box (take i terms) old → i < length terms
      → unsigned_abs (get_or terms i d).factor ≤ most_factor
      → AddsTerm parts box (get_or terms i d) old new
      → AreGathered parts box (take (i + 1) terms) new
  gathered_more terms i d old new gathered inside small adds =
      subst (λ list. AreGathered parts box list new) (sym (take_more terms i d inside)) (record {
        at = λ k column here. adds.at k column here
            ∙ ap (λ n. n +ℤ part_on parts box column term) (gathered.at k column here)
            ∙ sym (total-push (part_on parts box column) (take i terms) term);
        fixed = adds.fixed ∙ ap (λ n. n +ℤ part_fixed parts box term) gathered.fixed
            ∙ sym (total-push (part_fixed parts box) (take i terms) term);
        size = let was = gathered.size in let more = adds.size in
            let long = length-append (take i terms) (term ∷ []) in
            omega (arith, was, more, small, long);
        ascending = adds.ascending;
        within = adds.within gathered.within;
      })
    where
      term : Term
      term = get_or terms i d

  pub gathered_ascending : (terms : List Term) (old : Gathered) → AreGathered parts box terms old
      → IsAscending old.entries
  gathered_ascending terms old gathered = gathered.ascending

  pub room_for : (terms : List Term) (i : ℕ) (d : Term) (old : Gathered)
      → AreGathered parts box (take i terms) old → i < length terms
      → length terms ≤ most_gathered → All (λ term. unsigned_abs term.factor ≤ most_factor) terms
      → size_of old.entries + unsigned_abs old.fixed + unsigned_abs (get_or terms i d).factor
      < 2 ^ 62
  room_for terms i d old gathered inside few small =
      let was = gathered.size in
      let one = small i d inside in
      let long = length-take-le i terms (omega (arith, inside)) in
      omega (arith, was, one, long, few, inside)

-- the row that has such values is the one made of them
later_other : (k : ℕ) (e : Entry) (row : List Entry) → All (λ entry. k < entry.column) (e ∷ row)
    → e.column ≢ k
later_other k e row after same =
    let first = after 0 e (omega arith) in omega (arith, first, same)

pub none_later : (k : ℕ) (row : List Entry) → All (λ entry. k < entry.column) row
    → entry_at row k ≡ pos 0
none_later k [] after = refl
none_later k (e ∷ row) after =
    let none = value_other k e (later_other k e row after) in
    let more = none_later k row (All-tail (λ (entry : Entry). k < entry.column) e row after) in
    omega (arith, linear, none, more)

ascending_tail : (e : Entry) (row : List Entry) → IsAscending (e ∷ row) → IsAscending row
ascending_tail e row is = λ i j d less below.
    is (suc i) (suc j) d (omega (arith, less)) (omega (arith, below))

all_after : (e : Entry) (row : List Entry) → IsAscending (e ∷ row)
    → All (λ entry. e.column < entry.column) row
all_after e row is = λ k d below. is 0 (suc k) d (omega arith) (omega (arith, below))

module _ (factor : Var → ℤ) where
  no_more : (from : ℕ) (column : Var) → factor column ≡ pos 0
      → unless_zero from (factor column) ≡ []
  no_more from column none =
      ap (λ b. if b then [] else record { column = from; value = factor column } ∷ [])
      ((Decides-int_eq (factor column) (pos 0)).1 none)

  one_more : (from : ℕ) (column : Var) → factor column ≢ pos 0
      → unless_zero from (factor column) ≡ record { column = from; value = factor column } ∷ []
  one_more from column some = by (int_eq (factor column) (pos 0)) refl
    where
      entry : Entry
      entry = record { column = from; value = factor column }

      by : (b : Bool) → int_eq (factor column) (pos 0) ≡ b
          → (if b then [] else entry ∷ []) ≡ entry ∷ []
      by true is = absurd (some ((Decides-int_eq (factor column) (pos 0)).0 is))
      by false isnt = refl

  pub row_is : (columns : List Var) (from : ℕ) (row : List Entry) → IsAscending row
      → All (λ entry. entry.value ≢ pos 0) row → All (λ entry. from ≤ entry.column) row
      → All (λ entry. entry.column < from + length columns) row
      → ((i k : ℕ) (column : Var) → k ≡ from + i → slice_get columns i ≡ Some column
      → entry_at row k ≡ factor column)
      → row ≡ entries_from factor from columns
  row_is [] from [] ascending some low high at = refl
  row_is [] from (e ∷ row) ascending some low high at =
      let one = low 0 e (omega arith) in
      let two = high 0 e (omega arith) in
      absurd (omega (arith, one, two))
  row_is (column ∷ columns) from [] ascending some low high at =
      row_is columns (from + 1) [] ascending (All-nil (λ (entry : Entry). entry.value ≢ pos 0))
      (All-nil (λ (entry : Entry). from + 1 ≤ entry.column))
      (All-nil (λ (entry : Entry). entry.column < from + 1 + length columns))
      (λ i k c same here. at (suc i) k c (omega (arith, same)) here)
      ∙ ap (λ list. list ++ entries_from factor (from + 1) columns)
      (sym (no_more from column (sym (at 0 from column (omega arith) refl))))
  row_is (column ∷ columns) from (e ∷ row) ascending some low high at =
      by (eqb_tells e.column from)
      (λ same. row_is columns (from + 1) row (ascending_tail e row ascending)
      (All-tail (λ (entry : Entry). entry.value ≢ pos 0) e row some)
      (λ k d below. let after = all_after e row ascending k d below in omega (arith, after, same))
      (λ k d below. let under = high (suc k) d (omega (arith, below)) in omega (arith, under))
      (λ i k c is here.
      let value = at (suc i) k c (omega (arith, is)) here in
      let none = value_other k e (λ equal. omega (arith, equal, is, same)) in
      omega (arith, linear, value, none)))
      (λ more. row_is columns (from + 1) (e ∷ row) ascending some
      (All-cons (λ (entry : Entry). from + 1 ≤ entry.column) e row (omega (arith, more))
      (λ k d below. let after = all_after e row ascending k d below in omega (arith, after, more)))
      (λ k d below. let under = high k d below in omega (arith, under))
      (λ i k c is here. at (suc i) k c (omega (arith, is)) here))
    where
      here_first : entry_at (e ∷ row) from ≡ factor column
      here_first = at 0 from column (omega arith) refl

      by : ((e.column == from) ≡ true) × (e.column ≡ from)
          ⊎ ((e.column == from) ≡ false) × (e.column ≢ from)
          → (e.column ≡ from → row ≡ entries_from factor (from + 1) columns)
          → (from < e.column → e ∷ row ≡ entries_from factor (from + 1) columns)
          → e ∷ row ≡ entries_from factor from (column ∷ columns)
      by (inl is) rest all =
          let own = value_same from e is.1 in
          let none = none_later from row (λ k d below.
          let after = all_after e row ascending k d below in omega (arith, after, is.1)) in
          let value : e.value ≡ factor column = omega (arith, linear, here_first, own, none) in
          let entry : e ≡ record { column = from; value = factor column } =
          ap (λ n. record { column = n; value = e.value }) is.1
          ∙ ap (λ v. record { column = from; value = v }) value in
          ap (λ x. x ∷ row) entry
          ∙ ap (λ list. record { column = from; value = factor column } ∷ list) (rest is.1)
          ∙ ap (λ list. list ++ entries_from factor (from + 1) columns)
          (sym (one_more from column
          (λ zeros. some 0 e (omega arith) (value ∙ zeros))))
      by (inr isnt) rest all =
          let one = low 0 e (omega arith) in
          let more : from < e.column = omega (arith, one, isnt.1) in
          let none = none_later from (e ∷ row)
          (All-cons (λ (entry : Entry). from < entry.column) e row more
          (λ k d below. let after = all_after e row ascending k d below in
          omega (arith, after, more))) in
          all more
          ∙ ap (λ list. list ++ entries_from factor (from + 1) columns)
          (sym (no_more from column (sym here_first ∙ none)))

-- without zeros it has the same in each column
filter_at : (entries : List Entry) (k : ℕ)
    → entry_at (filter is_not_zero entries) k ≡ entry_at entries k
filter_at [] k = refl
filter_at (e ∷ entries) k =
    by (int_eq e.value (pos 0)) refl (filter_at entries k)
  where
    zeros : (b : Bool) → e.value ≡ pos 0 → (if b then e.value else pos 0) ≡ pos 0
    zeros true is = is
    zeros false is = refl

    by : (b : Bool) → int_eq e.value (pos 0) ≡ b
        → entry_at (filter is_not_zero entries) k ≡ entry_at entries k
        → entry_at (if not b then e ∷ filter is_not_zero entries else filter is_not_zero entries) k
        ≡ value_in k e +ℤ entry_at entries k
    by true is more =
        let none = zeros (e.column == k) ((Decides-int_eq e.value (pos 0)).0 is) in
        omega (arith, linear, none, more)
    by false isnt more = omega (arith, linear, more)

filter_size : (entries : List Entry) → size_of (filter is_not_zero entries) ≤ size_of entries
filter_size [] = omega arith
filter_size (e ∷ entries) = by (is_not_zero e) (filter_size entries)
  where
    size : Entry → ℕ
    size = λ entry. unsigned_abs entry.value

    by : (b : Bool) → size_of (filter is_not_zero entries) ≤ size_of entries
        → size_of (if b then e ∷ filter is_not_zero entries else filter is_not_zero entries)
        ≤ size_of (e ∷ entries)
    by true more =
        let one = sum_by-cons (λ (entry : Entry). unsigned_abs entry.value) e
        (filter is_not_zero entries) in
        let two = sum_by-cons (λ (entry : Entry). unsigned_abs entry.value) e entries in
        omega (arith, one, two, more)
    by false more =
        let two = sum_by-cons (λ (entry : Entry). unsigned_abs entry.value) e entries in
        omega (arith, two, more)

not_zero_is : (e : Entry) → is_not_zero e ≡ true → e.value ≢ pos 0
not_zero_is e told zeros =
    let is = (Decides-int_eq e.value (pos 0)).1 zeros in
    let no = ap not is in
    absurd (let e : false ≡ true = sym no ∙ told in cc)

pub all_landed : (parts : Parts) (box : Box) (terms : List Term) (old : Gathered)
    (entries : List Entry) → AreGathered parts box terms old
    → entries ≡ filter is_not_zero old.entries
    → IsLanded parts box terms (record { entries = entries; fixed = old.fixed })
all_landed parts box terms old entries gathered are = record {
  entries = are ∙ row_is (coefficient_of parts box terms) (columns_of parts box) 0
      (filter is_not_zero old.entries)
      (AllPairs-filter (λ (a b : Entry). a.column < b.column) is_not_zero old.entries
      gathered.ascending)
      (λ k d below. not_zero_is (get_or (filter is_not_zero old.entries) k d)
      (filter_passes is_not_zero old.entries k d below))
      (λ k d below. omega arith)
      (λ k d below.
      let under = All-filter is_not_zero
      (λ (entry : Entry). entry.column < length (columns_of parts box)) old.entries
      gathered.within k d below in
      omega (arith, under))
      (λ i k column same here. filter_at old.entries k
      ∙ gathered.at k column
      (let e : i ≡ k = omega (arith, same) in
      subst (λ n. slice_get (columns_of parts box) n ≡ Some column) e here));
  fixed = gathered.fixed;
  size = let less = filter_size old.entries in let was = gathered.size in
      let same = ap size_of are in omega (arith, less, was, same);
}
