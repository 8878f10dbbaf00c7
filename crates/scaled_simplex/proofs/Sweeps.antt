-- What a pivot does to each row: that of the leaving index is turned round, the cost row is cleared
-- by it, and each other row is cleared by it, or has nothing to clear and stays.
use Rattle.std.proofs.Common.{◌≡◌, ◌≢◌, ◌⊎◌, inl, inr, ℕ, zero, suc, ◌+◌, ◌<◌, ◌≤◌, ◌==◌, Bool, true, false, not, ◌&&◌, ◌||◌, if◌then◌else◌, List, length, set, Option, None, Some, Result, Ok, Err, pos, refl, sym, ap, ap₂, ◌∙◌, subst, arith}
use Rattle.std.proofs.lemmas.List.{length-set}
use Rattle.std.proofs.lemmas.Bool.Decides.{Decides-int_eq, eqb_tells}
use Rattle.std.specs.List.{find}
use Rattle.std.specs.Ordering.{int_eq}
use Rattle.std.proofs.Math.Bool.{true≢false}
use Rattle.exact_sums.proofs.ItemFacts.{slice_get-set_other, slice_get-set_same}
use Rattle.row_arena.specs.declared.entry.Entry.{Entry}
use Rattle.row_arena.specs.declared.wide.Wide.{Wide}
use Rattle.row_arena.specs.Arena.{combined, has_room, is_far, replaced, row_at, row_or_none}
use Rattle.row_arena.specs.Combining.{cleared}
use Rattle.row_arena.specs.Rows.{entry_at, negated}
use Rattle.scaled_simplex.proofs.EntryLaws.{Tells}
use Rattle.scaled_simplex.specs.Program.{Problem}
use Rattle.scaled_simplex.specs.Run.{is_swept, pivoted, swept, swept_after, swept_at}
use Rattle.scaled_simplex.specs.Tableau.{Tableau}

pub row_at-set_same : (rows : List (List Entry)) (k : ℕ) (row : List Entry) → k < length rows
    → row_at (set rows k row) k ≡ row
row_at-set_same rows k row within = ap row_or_none (slice_get-set_same rows k row within)

pub row_at-set_other : (rows : List (List Entry)) (k i : ℕ) (row : List Entry) → i ≢ k
    → row_at (set rows k row) i ≡ row_at rows i
row_at-set_other rows k i row other = ap row_or_none (slice_get-set_other rows k i row other)

-- where a row is combined, it is cleared and nothing else is changed
set_in_room : (b : Bool) (rows changed : List (List Entry)) (target : ℕ) (row : List Entry)
    (wide : Wide) → (if b then Ok (set rows target row) else Err wide) ≡ Ok changed
    → changed ≡ set rows target row
set_in_room true rows changed target row wide is = cc
set_in_room false rows changed target row wide is =
    absurd (let e : Err wide ≡ Ok changed = is in cc)

replaced_is : (far : Option Entry) (cells : ℕ) (rows changed : List (List Entry)) (target : ℕ)
    (row : List Entry) → replaced far cells rows target row ≡ Ok changed
    → changed ≡ set rows target row
replaced_is None cells rows changed target row is =
    set_in_room (has_room cells rows row) rows changed target row _ is
replaced_is (Some far) cells rows changed target row is =
    absurd (let e : replaced (Some far) cells rows target row ≡ Ok changed = is in cc)

pub combined_is : (cells : ℕ) (rows changed : List (List Entry)) (target pivot column : ℕ)
    → combined cells rows target pivot column ≡ Ok changed
    → changed ≡ set rows target (cleared column (row_at rows target) (row_at rows pivot))
combined_is cells rows changed target pivot column is =
    let row = cleared column (row_at rows target) (row_at rows pivot) in
    replaced_is (find is_far row) cells rows changed target row is

module _ (problem : Problem) (cells pivot index : ℕ) where
  -- what becomes of a row that is swept
  abbrev row_swept : ℕ → List Entry → List Entry → List Entry
  row_swept k target source =
      if (not (k == pivot) && ((k == length problem.constraints)
      || not (int_eq (entry_at target index) (pos 0))))
      then cleared index target source else target

  record IsChanged (rows changed : List (List Entry)) (k : ℕ) : Type 0 where
    same : length changed ≡ length rows
    here : row_at changed k ≡ row_swept k (row_at rows k) (row_at rows pivot)
    others : (i : ℕ) → i ≢ k → row_at changed i ≡ row_at rows i
    pivots : row_at changed pivot ≡ row_at rows pivot

  changed_by : (rows changed : List (List Entry)) (k : ℕ) → k < length rows → (b : Bool)
      → is_swept problem rows pivot index k ≡ b
      → (if b then combined cells rows k pivot index else Ok rows) ≡ Ok changed
      → IsChanged rows changed k
  changed_by rows changed k within true sweeps is =
      let row = cleared index (row_at rows k) (row_at rows pivot) in
      let made = combined_is cells rows changed k pivot index is in
      record {
        same = ap length made ∙ length-set rows k row;
        here = ap (λ (l : List (List Entry)). row_at l k) made
            ∙ row_at-set_same rows k row within
            ∙ ap (λ (b : Bool). if b then row else row_at rows k) (sym sweeps);
        others = λ i other. ap (λ (l : List (List Entry)). row_at l i) made
            ∙ row_at-set_other rows k i row other;
        pivots = ap (λ (l : List (List Entry)). row_at l pivot) made
            ∙ row_at-set_other rows k pivot row (λ at. at_pivot at sweeps);
      }
    where
      at_pivot : pivot ≡ k → is_swept problem rows pivot index k ≡ true → ⊥
      at_pivot at sweeps = by (eqb_tells k pivot)
        where
          by : Tells k pivot → ⊥
          by (inl is) =
              let off : is_swept problem rows pivot index k ≡ false = rw is.0 refl in
              let e : true ≡ false = sym sweeps ∙ off in true≢false e
          by (inr isnt) = isnt.1 (sym at)
  changed_by rows changed k within false stays is =
      let made : rows ≡ changed = cc in
      record {
        same = ap length (sym made);
        here = ap (λ (l : List (List Entry)). row_at l k) (sym made)
            ∙ ap (λ (b : Bool). if b then cleared index (row_at rows k) (row_at rows pivot)
            else row_at rows k) (sym stays);
        others = λ i other. ap (λ (l : List (List Entry)). row_at l i) (sym made);
        pivots = ap (λ (l : List (List Entry)). row_at l pivot) (sym made);
      }

  record IsSweptTo (k count : ℕ) (rows new : List (List Entry)) : Type 0 where
    same : length new ≡ length rows
    before : (i : ℕ) → i < k → row_at new i ≡ row_at rows i
    reached : (i : ℕ) → k ≤ i → i < k + count
        → row_at new i ≡ row_swept i (row_at rows i) (row_at rows pivot)

  order : (i k : ℕ) → (k + 1 ≤ i) ⊎ ((i ≡ k) ⊎ (i < k))
  order i k = grind arith

  swept_to : (count k : ℕ) (rows new : List (List Entry)) → k + count ≤ length rows
      → swept problem cells pivot index k count rows ≡ Ok new → IsSweptTo k count rows new
  swept_to zero k rows new few is =
      let made : rows ≡ new = cc in
      record {
        same = ap length (sym made);
        before = λ i below. ap (λ (l : List (List Entry)). row_at l i) (sym made);
        reached = λ i since below. absurd (omega (arith, since, below));
      }
  swept_to (suc count) k rows new few is =
      by (swept_at problem cells pivot index rows k) refl is
      (λ changed. swept_to count (k + 1) changed new)
    where
      rest : ℕ → List (List Entry) → Result (List (List Entry)) Wide
      rest next changed = swept problem cells pivot index next count changed

      by : (r : Result (List (List Entry)) Wide)
          → swept_at problem cells pivot index rows k ≡ r
          → swept_after problem cells pivot index rest (k + 1) r ≡ Ok new
          → ((changed : List (List Entry)) → k + 1 + count ≤ length changed
          → rest (k + 1) changed ≡ Ok new → IsSweptTo (k + 1) count changed new)
          → IsSweptTo k (suc count) rows new
      by (Err wide) at is more = absurd (let e : Err wide ≡ Ok new = is in cc)
      by (Ok changed) at is more =
          let one = changed_by rows changed k (omega (arith, few))
          (is_swept problem rows pivot index k) refl at in
          let same = one.same in
          let onward = more changed (omega (arith, few, same)) is in
          record {
            same = onward.same ∙ same;
            before = λ i below.
                onward.before i (omega (arith, below))
                ∙ one.others i (λ at. omega (arith, at, below));
            reached = λ i since below.
                by_order i (order i k) one onward since (omega (arith, below));
          }
        where
          by_order : (i : ℕ) → (k + 1 ≤ i) ⊎ ((i ≡ k) ⊎ (i < k)) → IsChanged rows changed k
              → IsSweptTo (k + 1) count changed new → k ≤ i → i < k + 1 + count
              → row_at new i ≡ row_swept i (row_at rows i) (row_at rows pivot)
          by_order i (inl past) one on since below =
              on.reached i past below
              ∙ ap₂ (row_swept i) (one.others i (λ at. omega (arith, at, past))) one.pivots
          by_order i (inr (inl at)) one on since below =
              on.before i (omega (arith, at))
              ∙ subst (λ n. row_at changed n ≡ row_swept n (row_at rows n) (row_at rows pivot))
              (sym at) one.here
          by_order i (inr (inr early)) one on since below =
              absurd (omega (arith, early, since))

-- what a pivot makes of the rows
pub record IsPivoted (problem : Problem) (rows new : List (List Entry)) (leaves enters : ℕ)
    : Type 0 where
  pub same : length new ≡ length rows
  pub pivots : row_at new leaves ≡ negated (row_at rows leaves)
  pub costs : row_at new (length problem.constraints)
      ≡ cleared enters (row_at rows (length problem.constraints)) (negated (row_at rows leaves))
  pub others : (k : ℕ) → k < length problem.constraints → k ≢ leaves
      → (row_at new k ≡ cleared enters (row_at rows k) (negated (row_at rows leaves)))
      ⊎ ((row_at new k ≡ row_at rows k) × (entry_at (row_at rows k) enters ≡ pos 0))

module _ (problem : Problem) (leaves enters : ℕ) where
  at_leaving : (target source : List Entry)
      → row_swept problem 0 leaves enters leaves target source ≡ target
  at_leaving target source = by (eqb_tells leaves leaves)
    where
      by : Tells leaves leaves → row_swept problem 0 leaves enters leaves target source ≡ target
      by (inl is) = rw is.0 refl
      by (inr isnt) = absurd (isnt.1 refl)

  at_costs : (target source : List Entry) → leaves < length problem.constraints
      → row_swept problem 0 leaves enters (length problem.constraints) target source
      ≡ cleared enters target source
  at_costs target source within =
      by (eqb_tells (length problem.constraints) leaves)
      (eqb_tells (length problem.constraints) (length problem.constraints))
    where
      last : ℕ
      last = length problem.constraints

      by : Tells last leaves → Tells last last
          → row_swept problem 0 leaves enters last target source ≡ cleared enters target source
      by (inl is) itself = absurd (omega (arith, is.1, within))
      by (inr isnt) (inl itself) = rw (isnt.0, itself.0) refl
      by (inr isnt) (inr not_itself) = absurd (not_itself.1 refl)

  at_others : (k : ℕ) (target source : List Entry) → k < length problem.constraints → k ≢ leaves
      → (row_swept problem 0 leaves enters k target source ≡ cleared enters target source)
      ⊎ ((row_swept problem 0 leaves enters k target source ≡ target)
      × (entry_at target enters ≡ pos 0))
  at_others k target source within other =
      by (eqb_tells k leaves) (eqb_tells k (length problem.constraints))
      (int_eq (entry_at target enters) (pos 0)) refl
    where
      last : ℕ
      last = length problem.constraints

      by : Tells k leaves → Tells k last → (b : Bool) → int_eq (entry_at target enters) (pos 0) ≡ b
          → (row_swept problem 0 leaves enters k target source ≡ cleared enters target source)
          ⊎ ((row_swept problem 0 leaves enters k target source ≡ target)
          × (entry_at target enters ≡ pos 0))
      by (inl is) costs b none = absurd (other is.1)
      by (inr isnt) (inl costs) b none = absurd (omega (arith, costs.1, within))
      by (inr isnt) (inr row) true none = inr (
        rw (isnt.0, row.0, none) refl,
        (Decides-int_eq (entry_at target enters) (pos 0)).0 none,
      )
      by (inr isnt) (inr row) false some = inl (rw (isnt.0, row.0, some) refl)

  pub pivoted_is : (cells : ℕ) (tableau : Tableau) (rows : List (List Entry))
      → length tableau.rows ≡ length problem.constraints + 1
      → leaves < length problem.constraints
      → pivoted problem cells tableau leaves enters ≡ Ok rows
      → IsPivoted problem tableau.rows rows leaves enters
  pivoted_is cells tableau rows count within is =
      let turned = negated (row_at tableau.rows leaves) in
      let start = set tableau.rows leaves turned in
      let long : length start ≡ length problem.constraints + 1 =
      length-set tableau.rows leaves turned ∙ count in
      let at : row_at start leaves ≡ turned =
      row_at-set_same tableau.rows leaves turned (omega (arith, count, within)) in
      let to = swept_to problem cells leaves enters (length problem.constraints + 1) 0 start rows
      (omega (arith, long)) is in
      record {
        same = to.same ∙ length-set tableau.rows leaves turned;
        pivots = to.reached leaves (omega arith) (omega (arith, within))
            ∙ at_leaving (row_at start leaves) (row_at start leaves) ∙ at;
        costs = to.reached (length problem.constraints) (omega arith) (omega arith)
            ∙ at_costs (row_at start (length problem.constraints)) (row_at start leaves) within
            ∙ ap₂ (cleared enters) (row_at-set_other tableau.rows leaves
            (length problem.constraints) turned (λ e. omega (arith, e, within))) at;
        others = λ k small other.
            let there = row_at-set_other tableau.rows leaves k turned other in
            let swept_k = to.reached k (omega arith) (omega (arith, small)) in
            let either = at_others k (row_at tableau.rows k) turned small other in
            by k (swept_k ∙ ap₂ (row_swept problem cells leaves enters k) there at) either;
      }
    where
      by : (k : ℕ) → row_at rows k ≡ row_swept problem 0 leaves enters k (row_at tableau.rows k)
          (negated (row_at tableau.rows leaves))
          → (row_swept problem 0 leaves enters k (row_at tableau.rows k)
          (negated (row_at tableau.rows leaves))
          ≡ cleared enters (row_at tableau.rows k) (negated (row_at tableau.rows leaves)))
          ⊎ ((row_swept problem 0 leaves enters k (row_at tableau.rows k)
          (negated (row_at tableau.rows leaves)) ≡ row_at tableau.rows k)
          × (entry_at (row_at tableau.rows k) enters ≡ pos 0))
          → (row_at rows k
          ≡ cleared enters (row_at tableau.rows k) (negated (row_at tableau.rows leaves)))
          ⊎ ((row_at rows k ≡ row_at tableau.rows k)
          × (entry_at (row_at tableau.rows k) enters ≡ pos 0))
      by k is (inl clears) = inl (is ∙ clears)
      by k is (inr stays) = inr (is ∙ stays.0, stays.1)

one_of : (k l m : ℕ) → k < m + 1 → (k ≡ l) ⊎ ((k ≢ l) × ((k < m) ⊎ (k ≡ m)))
one_of k l m small = grind arith

-- what holds of each row afterwards: of the leaving one turned round, of each other one cleared,
-- and of one that stays, since it has nothing to clear
pub pivoted_each : (problem : Problem) (rows new : List (List Entry)) (leaves enters : ℕ)
    → IsPivoted problem rows new leaves enters → (P : List Entry → Type 0) (k : ℕ)
    → k < length problem.constraints + 1
    → (k ≡ leaves → P (negated (row_at rows leaves)))
    → (k ≢ leaves → P (cleared enters (row_at rows k) (negated (row_at rows leaves))))
    → (k ≢ leaves → entry_at (row_at rows k) enters ≡ pos 0 → P (row_at rows k))
    → P (row_at new k)
pivoted_each problem rows new leaves enters is P k small turned clears stays =
    by (one_of k leaves (length problem.constraints) small)
  where
    either : k ≢ leaves
        → (row_at new k ≡ cleared enters (row_at rows k) (negated (row_at rows leaves)))
        ⊎ ((row_at new k ≡ row_at rows k) × (entry_at (row_at rows k) enters ≡ pos 0))
        → P (row_at new k)
    either other (inl made) = subst P (sym made) (clears other)
    either other (inr kept) = subst P (sym kept.0) (stays other kept.1)

    by : (k ≡ leaves) ⊎ ((k ≢ leaves)
        × ((k < length problem.constraints) ⊎ (k ≡ length problem.constraints)))
        → P (row_at new k)
    by (inl at) =
        subst (λ n. P (row_at new n)) (sym at) (subst P (sym is.pivots) (turned at))
    by (inr (other, inl within)) = either other (is.others k within other)
    by (inr (other, inr last)) =
        either other (inl (ap (row_at new) last ∙ is.costs
        ∙ ap (λ n. cleared enters (row_at rows n) (negated (row_at rows leaves))) (sym last)))
