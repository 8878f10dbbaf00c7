-- Sweeping by the rows of a list: all others have no entry at the index.
use Rattle.std.proofs.Common.{◌≡◌, ◌≢◌, ◌⊎◌, ℕ, zero, suc, ◌+◌, ◌-◌, ◌<◌, ◌≤◌, ◌==◌, Bool, true, false, not, ◌&&◌, ◌||◌, List, [], ◌∷◌, length, drop, get_or, Result, Ok, Err, All, AllPairs, if◌then◌else◌, pos, refl, sym, ap, ◌∙◌, subst, inl, inr, arith}
use Rattle.std.specs.List.{Contains}
use Rattle.std.specs.Ordering.{int_eq}
use Rattle.std.proofs.lemmas.Bool.{cases_eq, eq-eqb, ne_eqb}
use Rattle.std.proofs.lemmas.Bool.Decides.{Decides-int_eq}
use Rattle.std.proofs.lemmas.List.{drop_all, drop_more, get_or_default}
use Rattle.row_arena.specs.declared.entry.Entry.{Entry}
use Rattle.row_arena.specs.declared.wide.Wide.{Wide}
use Rattle.row_arena.specs.Arena.{combined, row_at}
use Rattle.row_arena.specs.Rows.{entry_at}
use Rattle.scaled_simplex.specs.Program.{Problem}
use Rattle.scaled_simplex.specs.Run.{is_swept, swept, swept_after, swept_at}
use Rattle.row_arena.specs.Combining.{cleared}
use Rattle.scaled_simplex.proofs.ListFacts.{no_both, no_item}
use Rattle.scaled_simplex.proofs.Sweeps.{combined_is, row_at-set_other}

not_first : (x y : ℕ) (xs : List ℕ) → y ≢ x → Contains (x ∷ xs) y → Contains xs y
not_first x y xs other (zero, within, is) = absurd (other (sym is))
not_first x y xs other (suc k, within, is) = (k, omega (arith, within), is)

-- where numbers ascend, the first that is left is the least that is left
from_drop : (xs : List ℕ) (p d i : ℕ) → p < length xs → AllPairs (λ a b. a < b) xs
    → Contains (drop p xs) i → get_or xs p d ≤ i
from_drop [] p d i within ascending has = absurd (omega (arith, within))
from_drop (x ∷ xs) zero d i within ascending (zero, inside, is) = omega (arith, is)
from_drop (x ∷ xs) zero d i within ascending (suc k, inside, is) =
    let less = ascending 0 (suc k) i (omega arith) inside in
    omega (arith, less, is)
from_drop (x ∷ xs) (suc p) d i within ascending has =
    from_drop xs p d i (omega (arith, within))
    (λ a b e less inside. ascending (suc a) (suc b) e (omega (arith, less)) (omega (arith, inside)))
    has

module _ (problem : Problem) (cells pivot index : ℕ) where
  abbrev Swept : Type 0
  Swept = Result (List (List Entry)) Wide

  abbrev sweep : ℕ → ℕ → List (List Entry) → Swept
  sweep k count rows = swept problem cells pivot index k count rows

  -- first some rows, and then others
  abbrev onward : ℕ → ℕ → Swept → Swept
  onward count k result =
      swept_after problem cells pivot index (λ next changed. sweep next count changed) k result

  swept_cut : (first second k : ℕ) (rows : List (List Entry))
      → sweep k (first + second) rows ≡ onward second (k + first) (sweep k first rows)
  swept_cut zero second k rows =
      let same : 0 + second ≡ second = omega arith in
      let at : k ≡ k + 0 = omega arith in
      ap (λ n. sweep k n rows) same ∙ ap (λ n. sweep n second rows) at
  swept_cut (suc first) second k rows =
      let same : suc first + second ≡ suc (first + second) = omega arith in
      ap (λ n. sweep k n rows) same
      ∙ by (swept_at problem cells pivot index rows k)
      (λ changed. swept_cut first second (k + 1) changed)
    where
      by : (result : Swept)
          → ((changed : List (List Entry)) → sweep (k + 1) (first + second) changed
          ≡ onward second (k + 1 + first) (sweep (k + 1) first changed))
          → onward (first + second) (k + 1) result
          ≡ onward second (k + suc first) (onward first (k + 1) result)
      by (Err wide) rest = refl
      by (Ok changed) rest =
          let at : k + 1 + first ≡ k + suc first = omega arith in
          rest changed ∙ ap (λ n. onward second n (sweep (k + 1) first changed)) at

  -- the other rows are as before
  swept_others : (rows changed : List (List Entry)) (k : ℕ)
      → swept_at problem cells pivot index rows k ≡ Ok changed → (i : ℕ) → i ≢ k
      → row_at changed i ≡ row_at rows i
  swept_others rows changed k is i other = by (is_swept problem rows pivot index k) is
    where
      by : (b : Bool) → (if b then combined cells rows k pivot index else Ok rows) ≡ Ok changed
          → row_at changed i ≡ row_at rows i
      by true done =
          ap (λ (l : List (List Entry)). row_at l i)
          (combined_is cells rows changed k pivot index done)
          ∙ row_at-set_other rows k i
          (cleared index (row_at rows k) (row_at rows pivot)) other
      by false done =
          let same : rows ≡ changed = cc in
          ap (λ (l : List (List Entry)). row_at l i) (sym same)

  -- a row that isn't swept is as before
  stays : (rows : List (List Entry)) (k : ℕ) → is_swept problem rows pivot index k ≡ false
      → swept_at problem cells pivot index rows k ≡ Ok rows
  stays rows k off =
      ap (λ b. if b then combined cells rows k pivot index else Ok rows) off

  idle : (count k : ℕ) (rows : List (List Entry))
      → ((i : ℕ) → k ≤ i → i < k + count → is_swept problem rows pivot index i ≡ false)
      → sweep k count rows ≡ Ok rows
  idle zero k rows off = refl
  idle (suc count) k rows off =
      ap (onward count (k + 1)) (stays rows k (off k (omega arith) (omega arith)))
      ∙ idle count (k + 1) rows
      (λ i from below. off i (omega (arith, from)) (omega (arith, below)))

  one : (k : ℕ) (rows : List (List Entry))
      → sweep k 1 rows ≡ swept_at problem cells pivot index rows k
  one k rows = by (swept_at problem cells pivot index rows k)
    where
      by : (result : Swept) → onward 0 (k + 1) result ≡ result
      by (Err wide) = refl
      by (Ok changed) = refl

  -- a constraint's row that is the pivot, or has no entry, isn't swept
  off_pivot : (rows : List (List Entry)) (k : ℕ) → k ≡ pivot
      → is_swept problem rows pivot index k ≡ false
  off_pivot rows k same =
      ap (λ b. not b && ((k == length problem.constraints)
      || not (int_eq (entry_at (row_at rows k) index) (pos 0)))) (eq-eqb k pivot same)

  off_none : (rows : List (List Entry)) (k : ℕ) → k < length problem.constraints
      → entry_at (row_at rows k) index ≡ pos 0 → is_swept problem rows pivot index k ≡ false
  off_none rows k below none =
      ap (λ b. not (k == pivot) && (b || not (int_eq (entry_at (row_at rows k) index) (pos 0))))
      (ne_eqb k (length problem.constraints) (λ same. omega (arith, same, below)))
      ∙ ap (λ b. not (k == pivot) && not b)
      ((Decides-int_eq (entry_at (row_at rows k) index) (pos 0)).1 none)
      ∙ never (not (k == pivot))
    where
      never : (b : Bool) → (b && false) ≡ false
      never true = refl
      never false = refl

  -- and the cost row is
  on_costs : (rows : List (List Entry)) → pivot < length problem.constraints
      → swept_at problem cells pivot index rows (length problem.constraints)
      ≡ combined cells rows (length problem.constraints) pivot index
  on_costs rows below =
      ap (λ b. if b then combined cells rows (length problem.constraints) pivot index else Ok rows)
      (ap (λ b. not b && ((length problem.constraints == length problem.constraints)
      || not (int_eq (entry_at (row_at rows (length problem.constraints)) index) (pos 0))))
      (ne_eqb (length problem.constraints) pivot (λ same. omega (arith, same, below)))
      ∙ ap (λ b. true && (b
      || not (int_eq (entry_at (row_at rows (length problem.constraints)) index) (pos 0))))
      (eq-eqb (length problem.constraints) (length problem.constraints) refl))

  -- The rows below a number are swept, and those that are left of a list are all others with an
  -- entry at the index.
  pub record IsSweepTo (todo : List ℕ) (p : ℕ) (start now : List (List Entry)) : Type 0 where
    pub next : ℕ
    pub done : sweep 0 next start ≡ Ok now
    pub within : next ≤ length problem.constraints
    pub later : (j d : ℕ) → p ≤ j → j < length todo → next ≤ get_or todo j d
    pub rest : (k : ℕ) → next ≤ k → k < length problem.constraints → k ≢ pivot
        → entry_at (row_at now k) index ≢ pos 0 → Contains (drop p todo) k

  module _ {todo : List ℕ} {p : ℕ} {start now : List (List Entry)}
      (swept_to : IsSweepTo todo p start now) where
    -- no row before a number is left
    gap : (k : ℕ) → swept_to.next ≤ k → k ≤ length problem.constraints
        → ((i : ℕ) → Contains (drop p todo) i → k ≤ i) → sweep 0 k start ≡ Ok now
    gap k from within none =
        let parts : k ≡ swept_to.next + (k - swept_to.next) = omega (arith, from) in
        ap (λ n. sweep 0 n start) parts
        ∙ swept_cut swept_to.next (k - swept_to.next) 0 start
        ∙ ap (onward (k - swept_to.next) (0 + swept_to.next)) swept_to.done
        ∙ idle (k - swept_to.next) (0 + swept_to.next) now
        (λ i since below. off i (omega (arith, since)) (omega (arith, below, from)))
      where
        off : (i : ℕ) → swept_to.next ≤ i → i < k → is_swept problem now pivot index i ≡ false
        off i since below = by (cases_eq i pivot)
          where
            by_entry : i ≢ pivot → (b : Bool)
                → int_eq (entry_at (row_at now i) index) (pos 0) ≡ b
                → is_swept problem now pivot index i ≡ false
            by_entry other true is =
                off_none now i (omega (arith, below, within))
                ((Decides-int_eq (entry_at (row_at now i) index) (pos 0)).0 is)
            by_entry other false is =
                let some : entry_at (row_at now i) index ≢ pos 0 =
                λ none. no_both ((Decides-int_eq (entry_at (row_at now i) index) (pos 0)).1 none) is
                in
                let past = none i
                (swept_to.rest i since (omega (arith, below, within)) other some) in
                absurd (omega (arith, below, past))

            by : (i ≡ pivot) ⊎ (i ≢ pivot) → is_swept problem now pivot index i ≡ false
            by (inl same) = off_pivot now i same
            by (inr other) = by_entry other (int_eq (entry_at (row_at now i) index) (pos 0)) refl

    module _ (d : ℕ) (inside : p < length todo) (ascending : AllPairs (λ a b. a < b) todo)
        (small : All (λ k. k < length problem.constraints) todo) where
      abbrev here : ℕ
      here = get_or todo p d

      here_small : here < length problem.constraints
      here_small = small p d inside

      left_is : drop p todo ≡ here ∷ drop (p + 1) todo
      left_is = drop_more todo p d inside

      not_before : (i : ℕ) → Contains (drop p todo) i → here ≤ i
      not_before i has = from_drop todo p d i inside ascending has

      to_here : sweep 0 here start ≡ Ok now
      to_here =
          gap here (swept_to.later p d (omega arith) inside) (omega (arith, here_small)) not_before

      past_here : (result : Swept) → swept_at problem cells pivot index now here ≡ result
          → sweep 0 (here + 1) start ≡ result
      past_here result is =
          swept_cut here 1 0 start ∙ ap (onward 1 (0 + here)) to_here
          ∙ (let at : 0 + here ≡ here = omega arith in
          ap (λ n. sweep n 1 now) at) ∙ one here now ∙ is

      pub swept_wide : (wide : Wide) → swept_at problem cells pivot index now here ≡ Err wide
          → sweep 0 (length problem.constraints + 1) start ≡ Err wide
      swept_wide wide is =
          let count = length problem.constraints - here in
          let small_here = here_small in
          let parts : length problem.constraints + 1 ≡ (here + 1) + count =
          omega (arith, small_here) in
          ap (λ n. sweep 0 n start) parts
          ∙ swept_cut (here + 1) count 0 start
          ∙ ap (onward count (0 + (here + 1))) (past_here (Err wide) is)

      pub swept_more : (changed : List (List Entry))
          → swept_at problem cells pivot index now here ≡ Ok changed
          → IsSweepTo todo (p + 1) start changed
      swept_more changed is = record {
        next = here + 1;
        done = past_here (Ok changed) is;
        within = let small_here = here_small in omega (arith, small_here);
        later = λ j e from below.
            let less = ascending p j e (omega (arith, from)) below in
            let same : get_or todo p e ≡ here = get_or_default todo p e d inside in
            omega (arith, less, same);
        rest = λ k from below other some.
            let apart : k ≢ here = λ same. omega (arith, from, same) in
            let left = swept_to.rest k
            (let early = swept_to.later p d (omega arith) inside in omega (arith, from, early))
            below other
            (rw (swept_others now changed here is k apart) at some) in
            not_first here k (drop (p + 1) todo) apart (rw left_is at left);
      }

    pub swept_all : length todo ≤ p → sweep 0 (length problem.constraints) start ≡ Ok now
    swept_all past =
        gap (length problem.constraints) swept_to.within (omega arith)
        (λ i has. absurd (no_item i (subst (λ l. Contains l i) (drop_all p todo past) has)))

  -- all constraints' rows are swept, and the cost row is the last
  pub swept_costs : (start now : List (List Entry)) → pivot < length problem.constraints
      → sweep 0 (length problem.constraints) start ≡ Ok now
      → sweep 0 (length problem.constraints + 1) start
      ≡ combined cells now (length problem.constraints) pivot index
  swept_costs start now below done =
      let m = length problem.constraints in
      let at : 0 + m ≡ m = omega arith in
      swept_cut m 1 0 start ∙ ap (onward 1 (0 + m)) done ∙ ap (λ n. sweep n 1 now) at
      ∙ one m now ∙ on_costs now below
