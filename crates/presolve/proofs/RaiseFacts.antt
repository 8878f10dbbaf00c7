-- An entry that is raised, or put between two others.
use Rattle.std.proofs.Common.{◌≡◌, ◌⊎◌, ℕ, zero, suc, ◌+◌, ◌-◌, ◌<◌, ◌≤◌, ◌==◌, Bool, true, false, List, [], ◌∷◌, length, set, get_or, take, drop, if◌then◌else◌, ℤ, pos, ◌+ℤ◌, unsigned_abs, inl, inr, refl, sym, ap, ◌∙◌, subst, arith}
use Rattle.std.proofs.lemmas.Bool.{cases_lt}
use Rattle.std.proofs.lemmas.Int.{ints}
use Rattle.std.proofs.lemmas.List.{length-set}
use Rattle.std.proofs.lemmas.List.Edits.{length-insert, get_or-insert_above, get_or-insert_at, get_or-insert_below}
use Rattle.std.proofs.lemmas.List.Elements.{All-append, All-cons, All-drop, All-set, All-take}
use Rattle.std.proofs.lemmas.List.Sums.{sum_by-cons, sum_by-insert, sum_by-set}
use Rattle.std.specs.List.{insert}
use Rattle.row_arena.specs.declared.entry.Entry.{Entry}
use Rattle.row_arena.specs.Rows.{entry_at, value_in}
use Rattle.row_arena.proofs.WholeLaws.{linear}
use Rattle.presolve.specs.Gathering.{IsAscending, IsFound, IsPlace, IsRaised, size_of}

-- no entry is larger than all together
pub item_size : (entries : List Entry) (k : ℕ) (d : Entry) → k < length entries
    → unsigned_abs (get_or entries k d).value ≤ size_of entries
item_size [] k d within = absurd (omega (arith, within))
item_size (e ∷ entries) zero d within =
    let all = sum_by-cons (λ (entry : Entry). unsigned_abs entry.value) e entries in
    omega (arith, all)
item_size (e ∷ entries) (suc k) d within =
    let all = sum_by-cons (λ (entry : Entry). unsigned_abs entry.value) e entries in
    let more = item_size entries k d (omega (arith, within)) in
    omega (arith, all, more)

pub item_small : (entries : List Entry) (k : ℕ) (d : Entry) (factor : ℤ) (most : ℕ)
    → k < length entries → size_of entries + unsigned_abs factor < most
    → unsigned_abs (get_or entries k d).value + unsigned_abs factor < most
item_small entries k d factor most within small =
    let all = item_size entries k d within in omega (arith, all, small)

value_sum : (k column : ℕ) (value factor : ℤ)
    → value_in k (record { column = column; value = value +ℤ factor })
    ≡ value_in k (record { column = column; value = value })
    +ℤ value_in k (record { column = column; value = factor })
value_sum k column value factor = by (column == k)
  where
    by : (b : Bool) → (if b then value +ℤ factor else pos 0)
        ≡ (if b then value else pos 0) +ℤ (if b then factor else pos 0)
    by true = refl
    by false = refl

set_at : (entries : List Entry) (i k : ℕ) (d : Entry) (column : ℕ) (factor : ℤ)
    → i < length entries → (get_or entries i d).column ≡ column
    → entry_at (set entries i (record {
      column = column;
      value = (get_or entries i d).value +ℤ factor;
    })) k ≡ entry_at entries k +ℤ value_in k (record { column = column; value = factor })
set_at [] i k d column factor within same = absurd (omega (arith, within))
set_at (e ∷ entries) zero k d column factor within same =
    let one = value_sum k column e.value factor in
    let its = ap (λ n. value_in k (record { column = n; value = e.value })) same in
    omega (arith, linear, one, its)
set_at (e ∷ entries) (suc i) k d column factor within same =
    let more = set_at entries i k d column factor (omega (arith, within)) same in
    omega (arith, linear, more)

insert_at : (entries : List Entry) (i k : ℕ) (entry : Entry)
    → entry_at (insert entries i entry) k ≡ entry_at entries k +ℤ value_in k entry
insert_at [] zero k entry = omega (arith, linear)
insert_at [] (suc i) k entry = omega (arith, linear)
insert_at (e ∷ entries) zero k entry = omega (arith, linear)
insert_at (e ∷ entries) (suc i) k entry =
    let more = insert_at entries i k entry in omega (arith, linear, more)

-- its column stays
set_column : (entries : List Entry) (i k : ℕ) (d e f : Entry) → i < length entries
    → f.column ≡ (get_or entries i e).column
    → (get_or (set entries i f) k d).column ≡ (get_or entries k d).column
set_column [] i k d e f within same = absurd (omega (arith, within))
set_column (x ∷ entries) zero zero d e f within same = same
set_column (x ∷ entries) zero (suc k) d e f within same = refl
set_column (x ∷ entries) (suc i) zero d e f within same = refl
set_column (x ∷ entries) (suc i) (suc k) d e f within same =
    set_column entries i k d e f (omega (arith, within)) same

abs_sum : (a b : ℤ) → unsigned_abs (a +ℤ b) ≤ unsigned_abs a + unsigned_abs b
abs_sum a b = omega (arith, ints)

set_entry : (entries : List Entry) (place column i : ℕ) (d : Entry) (factor : ℤ)
    → IsAscending entries → 0 < place → place ≤ length entries
    → IsFound column entries place true → i ≡ place - 1
    → IsRaised column factor entries
    (set entries i (record { column = column; value = (get_or entries i d).value +ℤ factor }))
set_entry entries place column i d factor ascending some within found here = record {
  at = λ k. set_at entries i k d column factor inside same;
  size =
      let all = sum_by-set (λ (entry : Entry). unsigned_abs entry.value) entries i new d inside in
      let more = abs_sum (get_or entries i d).value factor in
      omega (arith, all, more);
  ascending = λ j k e less below.
      let long = length-set entries i new in
      let one = set_column entries i j e d new inside (sym same) in
      let two = set_column entries i k e d new inside (sym same) in
      let was = ascending j k e less (omega (arith, below, long)) in
      omega (arith, one, two, was);
  within = λ count small all. All-set (λ (entry : Entry). entry.column < count) entries i new
      small all;
}
  where
    new : Entry
    new = record { column = column; value = (get_or entries i d).value +ℤ factor }

    inside : i < length entries
    inside = omega (arith, some, within, here)

    same : (get_or entries i d).column ≡ column
    same = found.here refl i d (omega (arith, some, here))

pub set_raised : (entries : List Entry) (place column : ℕ) (factor : ℤ) (old new : Entry)
    → IsAscending entries → 0 < place → place ≤ length entries
    → IsFound column entries place true → old ≡ get_or entries (place - 1) old
    → new ≡ record { column = old.column; value = old.value +ℤ factor }
    → IsRaised column factor entries (set entries (place - 1) new)
set_raised entries place column factor old new ascending some within found was is =
    let same = found.here refl (place - 1) old (omega (arith, some)) in
    let columns = ap (λ (e : Entry). e.column) was ∙ same in
    let values = ap (λ (e : Entry). e.value +ℤ factor) was in
    let entry : new ≡ record {
      column = column;
      value = (get_or entries (place - 1) old).value +ℤ factor;
    } = is ∙ ap (λ n. record { column = n; value = old.value +ℤ factor }) columns
    ∙ ap (λ v. record { column = column; value = v }) values in
    subst (λ e. IsRaised column factor entries (set entries (place - 1) e)) (sym entry)
    (set_entry entries place column (place - 1) old factor ascending some within found refl)

pub insert_raised : (entries : List Entry) (place column : ℕ) (factor : ℤ)
    → IsAscending entries → IsPlace column entries place → IsFound column entries place false
    → IsRaised column factor entries
    (insert entries place (record { column = column; value = factor }))
insert_raised entries place column factor ascending is found = record {
  at = λ k. insert_at entries place k new;
  size =
      let all = sum_by-insert (λ (entry : Entry). unsigned_abs entry.value) entries place new in
      omega (arith, all);
  ascending = ordered;
  within = λ count small all.
      All-append (λ (entry : Entry). entry.column < count) (take place entries)
      (new ∷ drop place entries)
      (All-take (λ (entry : Entry). entry.column < count) place entries all)
      (All-cons (λ (entry : Entry). entry.column < count) new (drop place entries) small
      (All-drop (λ (entry : Entry). entry.column < count) place entries all));
}
  where
    new : Entry
    new = record { column = column; value = factor }

    -- those before the place are in earlier columns
    before : (k : ℕ) (d : Entry) → k < place → (get_or entries k d).column < column
    before k d less = by (cases_lt (k + 1) place)
      where
        last : (j : ℕ) → j + 1 ≡ place → (get_or entries j d).column < column
        last j at =
            let le = is.before j d at in
            let other = found.other refl j d at in
            omega (arith, le, other)

        by : (k + 1 < place) ⊎ (place ≤ k + 1) → (get_or entries k d).column < column
        by (inl more) =
            let one = last (place - 1) (omega (arith, less)) in
            let within = is.within in
            let order = ascending k (place - 1) d (omega (arith, more))
            (omega (arith, less, within)) in
            omega (arith, one, order)
        by (inr end) = last k (omega (arith, less, end))

    list : List Entry
    list = insert entries place new

    long : length list ≡ length entries + 1
    long = length-insert entries place new is.within

    below_column : (k : ℕ) (d : Entry) → k < place
        → (get_or list k d).column ≡ (get_or entries k d).column
    below_column k d less =
        ap (λ (e : Entry). e.column) (get_or-insert_below entries place new d k less is.within)

    at_column : (k : ℕ) (d : Entry) → k ≡ place → (get_or list k d).column ≡ column
    at_column k d same =
        ap (λ n. (get_or list n d).column) same
        ∙ ap (λ (e : Entry). e.column) (get_or-insert_at entries place new d is.within)

    above_column : (k : ℕ) (d : Entry) → place < k
        → (get_or list k d).column ≡ (get_or entries (k - 1) d).column
    above_column k d more =
        let next : k ≡ k - 1 + 1 = omega (arith, more) in
        ap (λ n. (get_or list n d).column) next
        ∙ ap (λ (e : Entry). e.column)
        (get_or-insert_above entries place new d (k - 1) (omega (arith, more)) is.within)

    ordered : IsAscending list
    ordered j k d less below = by (cases_lt k place) (cases_lt place k) (cases_lt j place)
        (cases_lt place j)
      where
        fits : k < length entries + 1
        fits = omega (arith, below, long)

        by : (k < place) ⊎ (place ≤ k) → (place < k) ⊎ (k ≤ place) → (j < place) ⊎ (place ≤ j)
            → (place < j) ⊎ (j ≤ place) → (get_or list j d).column < (get_or list k d).column
        by (inl kb) c e f =
            let one = below_column j d (omega (arith, less, kb)) in
            let two = below_column k d kb in
            let room = is.within in
            let order = ascending j k d less (omega (arith, kb, room)) in
            omega (arith, one, two, order)
        by (inr kp) (inr kl) (inl jb) f =
            let one = below_column j d jb in
            let two = at_column k d (omega (arith, kp, kl)) in
            let order = before j d jb in
            omega (arith, one, two, order)
        by (inr kp) (inr kl) (inr jp) f = absurd (omega (arith, kl, jp, less))
        by (inr kp) (inl ka) (inl jb) f =
            let one = below_column j d jb in
            let two = above_column k d ka in
            let order = before j d jb in
            let past = is.past (k - 1) d (omega (arith, ka)) (omega (arith, fits, ka)) in
            omega (arith, one, two, order, past)
        by (inr kp) (inl ka) (inr jp) (inr jl) =
            let one = at_column j d (omega (arith, jp, jl)) in
            let two = above_column k d ka in
            let past = is.past (k - 1) d (omega (arith, ka)) (omega (arith, fits, ka)) in
            omega (arith, one, two, past)
        by (inr kp) (inl ka) (inr jp) (inl ja) =
            let one = above_column j d ja in
            let two = above_column k d ka in
            let order = ascending (j - 1) (k - 1) d (omega (arith, less, ja))
            (omega (arith, fits, ka)) in
            omega (arith, one, two, order)

pub found_some : (column : ℕ) (entries : List Entry) (place : ℕ) (found : Bool)
    → IsFound column entries place found → found ≡ true → 0 < place
found_some column entries place found is told = is.some told
