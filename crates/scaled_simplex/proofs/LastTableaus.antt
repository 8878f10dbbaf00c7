-- There is one last tableau at the most: room never changes what a pivot makes, only whether it is
-- made; and from the last tableau no pivot leads on.
use Rattle.std.proofs.Common.{◌≡◌, ◌⊎◌, inl, inr, ℕ, zero, suc, ◌+◌, ◌<◌, Bool, true, false, if◌then◌else◌, List, set, Option, None, Some, Result, Ok, Err, refl, sym, ap, ◌∙◌, subst, arith}
use Rattle.row_arena.specs.declared.entry.Entry.{Entry}
use Rattle.row_arena.specs.declared.wide.Wide.{Wide}
use Rattle.row_arena.specs.Arena.{combined, row_at}
use Rattle.scaled_simplex.specs.declared.iteration.Iteration.{Iteration}
use Rattle.scaled_simplex.specs.declared.iteration.Iteration.TheVariants.{Ends, Pivots}
use Rattle.scaled_simplex.specs.Board.{IsBasic}
use Rattle.scaled_simplex.specs.LastTableau.{IsLastTableau, tableau_after, tableau_next, tableau_pivoted, tableau_iterated}
use Rattle.scaled_simplex.specs.Program.{IsProblem, Problem}
use Rattle.scaled_simplex.specs.Run.{entering, is_swept, leaving, pivoted, swept, swept_after, swept_at, iteration_leaving, iteration_of}
use Rattle.scaled_simplex.specs.Tableau.{Tableau, first_tableau}
use Rattle.scaled_simplex.proofs.BasicRows.{first_basic, pivot_basic}
use Rattle.scaled_simplex.proofs.FirstTableau.{first_lawful}
use Rattle.scaled_simplex.proofs.Lawful.{IsLawful, pivot_lawful}
use Rattle.scaled_simplex.proofs.RunLaw.{iteration_pivots}
use Rattle.scaled_simplex.proofs.Sweeps.{combined_is}

-- what is there isn't missing, and what was made didn't fail
missing : {A P : Type 0} {a : A} → None ≡ Some a → P
missing {A} {P} {a} is = absurd (let e : None ≡ Some a = is in cc)

failed : {A P : Type 0} {wide : Wide} {a : A} → Err wide ≡ Ok a → P
failed {A} {P} {wide} {a} is = absurd (let e : Err wide ≡ Ok a = is in cc)

module _ (problem : Problem) (one two pivot index : ℕ) where
  step_same : (rows first second : List (List Entry)) (k : ℕ)
      → swept_at problem one pivot index rows k ≡ Ok first
      → swept_at problem two pivot index rows k ≡ Ok second → first ≡ second
  step_same rows first second k = by (is_swept problem rows pivot index k)
    where
      by : (b : Bool) → (if b then combined one rows k pivot index else Ok rows) ≡ Ok first
          → (if b then combined two rows k pivot index else Ok rows) ≡ Ok second → first ≡ second
      by true is_first is_second =
          combined_is one rows first k pivot index is_first
          ∙ sym (combined_is two rows second k pivot index is_second)
      by false is_first is_second = cc

  swept_same : (count k : ℕ) (rows first second : List (List Entry))
      → swept problem one pivot index k count rows ≡ Ok first
      → swept problem two pivot index k count rows ≡ Ok second → first ≡ second
  swept_same zero k rows first second = λ is_first is_second. cc
  swept_same (suc count) k rows first second =
      by (swept_at problem one pivot index rows k) (swept_at problem two pivot index rows k) refl
      refl (λ changed. swept_same count (k + 1) changed first second)
    where
      rest : ℕ → ℕ → List (List Entry) → Result (List (List Entry)) Wide
      rest cells next changed = swept problem cells pivot index next count changed

      by : (r s : Result (List (List Entry)) Wide)
          → swept_at problem one pivot index rows k ≡ r
          → swept_at problem two pivot index rows k ≡ s
          → ((changed : List (List Entry)) → rest one (k + 1) changed ≡ Ok first
          → rest two (k + 1) changed ≡ Ok second → first ≡ second)
          → swept_after problem one pivot index (rest one) (k + 1) r ≡ Ok first
          → swept_after problem two pivot index (rest two) (k + 1) s ≡ Ok second → first ≡ second
      by (Err wide) s is_r is_s more is_first is_second = failed is_first
      by (Ok changed) (Err wide) is_r is_s more is_first is_second = failed is_second
      by (Ok changed) (Ok other) is_r is_s more is_first is_second =
          more changed is_first
          (subst (λ rows. rest two (k + 1) rows ≡ Ok second)
          (sym (step_same rows changed other k is_r is_s)) is_second)

module _ (problem : Problem) where
  pivoted_same : (one two : ℕ) (tableau first second : Tableau) (leaves enters : ℕ)
      (r s : Result (List (List Entry)) Wide)
      → pivoted problem one tableau leaves enters ≡ r
      → pivoted problem two tableau leaves enters ≡ s
      → tableau_pivoted problem one tableau leaves enters r ≡ Some first
      → tableau_pivoted problem two tableau leaves enters s ≡ Some second → first ≡ second
  pivoted_same one two tableau first second leaves enters (Err wide) s is_r is_s is_first
      is_second =
      missing is_first
  pivoted_same one two tableau first second leaves enters (Ok rows) (Err wide) is_r is_s is_first
      is_second = missing is_second
  pivoted_same one two tableau first second leaves enters (Ok rows) (Ok other) is_r is_s is_first
      is_second =
      let same : rows ≡ other =
      swept_same problem one two leaves enters _ 0 _ rows other is_r is_s in
      let made : ℕ → List (List Entry) → Tableau =
      λ n r. record { rows = r; basis = set tableau.basis leaves enters } in
      let here : made 0 rows ≡ first = cc in
      let there : made 0 other ≡ second = cc in
      sym here ∙ ap (made 0) same ∙ there

  turned_same : (one two : ℕ) (tableau first second : Tableau) (iteration : Iteration)
      → tableau_iterated problem one tableau iteration ≡ Some first
      → tableau_iterated problem two tableau iteration ≡ Some second → first ≡ second
  turned_same one two tableau first second (Ends end row) is_first is_second = missing is_first
  turned_same one two tableau first second (Pivots leaves enters) is_first is_second =
      pivoted_same one two tableau first second leaves enters
      (pivoted problem one tableau leaves enters) (pivoted problem two tableau leaves enters)
      refl refl is_first is_second

  after_same : (pivots one two : ℕ) (first second : Tableau)
      → tableau_after problem one pivots ≡ Some first
      → tableau_after problem two pivots ≡ Some second → first ≡ second
  after_same zero one two first second = λ is_first is_second. cc
  after_same (suc pivots) one two first second =
      by (tableau_after problem one pivots) (tableau_after problem two pivots) refl refl
      (λ old other. after_same pivots one two old other)
    where
      by : (o p : Option Tableau) → tableau_after problem one pivots ≡ o
          → tableau_after problem two pivots ≡ p
          → ((old other : Tableau) → tableau_after problem one pivots ≡ Some old
          → tableau_after problem two pivots ≡ Some other → old ≡ other)
          → tableau_next problem one o ≡ Some first → tableau_next problem two p ≡ Some second
          → first ≡ second
      by None p is_o is_p same is_first is_second = missing is_first
      by (Some old) None is_o is_p same is_first is_second = missing is_second
      by (Some old) (Some other) is_o is_p same is_first is_second =
          turned_same one two old first second (iteration_of problem None old) is_first
          (subst (λ t. tableau_next problem two (Some t) ≡ Some second)
          (sym (same old other is_o is_p)) is_second)

  last_or : (n k : ℕ) → n < suc k → (n < k) ⊎ (n ≡ k)
  last_or n k small = grind arith

  module _ (cells : ℕ) where
    next_none : (tableau : Tableau) → leaving problem tableau ≡ None
        → tableau_next problem cells (Some tableau) ≡ None
    next_none tableau none =
        ap (λ o. tableau_iterated problem cells tableau (iteration_leaving problem tableau o)) none

    -- a tableau that is reached was so by way of one after fewer pivots
    before : (k n : ℕ) (tableau : Tableau) → n < suc k
        → tableau_after problem cells k ≡ Some tableau
        → (old : Tableau) × (tableau_after problem cells n ≡ Some old)
    before zero n tableau small is =
        (tableau, ap (tableau_after problem cells) (let e : n ≡ 0 = omega (arith, small) in e) ∙ is)
    before (suc k) n tableau small is =
        by (last_or n (suc k) small) (tableau_after problem cells k) refl is
        (λ old less was. before k n old less was)
      where
        by : (n < suc k) ⊎ (n ≡ suc k) → (o : Option Tableau)
            → tableau_after problem cells k ≡ o → tableau_next problem cells o ≡ Some tableau
            → ((old : Tableau) → n < suc k → tableau_after problem cells k ≡ Some old
            → (older : Tableau) × (tableau_after problem cells n ≡ Some older))
            → (old : Tableau) × (tableau_after problem cells n ≡ Some old)
        by (inr at) o is_o next rest = (
          tableau,
          ap (tableau_after problem cells) at ∙ ap (tableau_next problem cells) is_o
              ∙ next,
        )
        by (inl less) None is_o next rest = missing next
        by (inl less) (Some old) is_o next rest = rest old less is_o

    -- and nothing is reached after the last one
    stuck : (k n : ℕ) (tableau : Tableau) → n < k → tableau_after problem cells n ≡ Some tableau
        → leaving problem tableau ≡ None → tableau_after problem cells k ≡ None
    stuck zero n tableau small is none = absurd (omega (arith, small))
    stuck (suc k) n tableau small is none =
        by (last_or n k small) (λ less. stuck k n tableau less is none)
      where
        by : (n < k) ⊎ (n ≡ k) → (n < k → tableau_after problem cells k ≡ None)
            → tableau_next problem cells (tableau_after problem cells k) ≡ None
        by (inl less) rest = ap (tableau_next problem cells) (rest less)
        by (inr at) rest =
            ap (tableau_next problem cells) (ap (tableau_after problem cells) (sym at) ∙ is)
            ∙ next_none tableau none

  no_later : (first second : Tableau) (one : IsLastTableau problem first)
      (two : IsLastTableau problem second) → one.reached.pivots < two.reached.pivots → ⊥
  no_later first second one two less =
      let old = before two.cells two.reached.pivots one.reached.pivots second
      (omega (arith, less)) two.reached.is in
      let same = after_same one.reached.pivots one.cells two.cells first old.0 one.reached.is
      old.1 in
      let none = stuck two.cells two.reached.pivots one.reached.pivots old.0 less old.1
      (subst (λ t. leaving problem t ≡ None) same one.none) in
      missing (sym none ∙ two.reached.is)

  pub last_same : (first second : Tableau) → IsLastTableau problem first
      → IsLastTableau problem second → first ≡ second
  last_same first second one two = by (order one.reached.pivots two.reached.pivots)
    where
      order : (m n : ℕ) → (m < n) ⊎ ((n < m) ⊎ (m ≡ n))
      order m n = grind arith

      by : (one.reached.pivots < two.reached.pivots)
          ⊎ ((two.reached.pivots < one.reached.pivots)
          ⊎ (one.reached.pivots ≡ two.reached.pivots)) → first ≡ second
      by (inl less) = absurd (no_later first second one two less)
      by (inr (inl more)) = absurd (no_later second first two one more)
      by (inr (inr same)) =
          after_same two.reached.pivots one.cells two.cells first second
          (ap (tableau_after problem one.cells) (sym same) ∙ one.reached.is) two.reached.is

  -- each tableau that is reached is lawful, and basic
  record IsSound (tableau : Tableau) : Type 0 where
    lawful : IsLawful problem tableau
    basic : IsBasic problem tableau

  sound_pivoted : (cells : ℕ) (tableau next : Tableau) (leaves enters : ℕ) → IsSound tableau
      → leaving problem tableau ≡ Some leaves
      → entering problem tableau (row_at tableau.rows leaves) ≡ Some enters
      → (r : Result (List (List Entry)) Wide) → pivoted problem cells tableau leaves enters ≡ r
      → tableau_pivoted problem cells tableau leaves enters r ≡ Some next → IsSound next
  sound_pivoted cells tableau next leaves enters sound leaves_is enters_is (Err wide) is made =
      missing made
  sound_pivoted cells tableau next leaves enters sound leaves_is enters_is (Ok rows) is made =
      let here : record { rows = rows; basis = set tableau.basis leaves enters } ≡ next = cc in
      subst IsSound here (record {
        lawful = pivot_lawful problem tableau sound.lawful leaves enters cells rows leaves_is
            enters_is is;
        basic = pivot_basic problem tableau sound.lawful.count sound.lawful.basis sound.basic
            leaves enters cells rows leaves_is enters_is is;
      })

  sound_turned : (cells : ℕ) (tableau next : Tableau) → IsSound tableau → (iteration : Iteration)
      → iteration_of problem None tableau ≡ iteration
      → tableau_iterated problem cells tableau iteration ≡ Some next → IsSound next
  sound_turned cells tableau next sound (Ends end row) is made = missing made
  sound_turned cells tableau next sound (Pivots leaves enters) is made =
      let both = iteration_pivots problem tableau sound.lawful None leaves enters is in
      sound_pivoted cells tableau next leaves enters sound both.0 both.1
      (pivoted problem cells tableau leaves enters) refl made

  sound_after : IsProblem problem → (cells pivots : ℕ) (tableau : Tableau)
      → tableau_after problem cells pivots ≡ Some tableau → IsSound tableau
  sound_after valid cells zero tableau is =
      let here : first_tableau problem ≡ tableau = cc in
      subst IsSound here (record {
        lawful = first_lawful problem valid;
        basic = first_basic problem valid;
      })
  sound_after valid cells (suc pivots) tableau is =
      by (tableau_after problem cells pivots) refl is
      (λ old was. sound_after valid cells pivots old was)
    where
      by : (o : Option Tableau) → tableau_after problem cells pivots ≡ o
          → tableau_next problem cells o ≡ Some tableau
          → ((old : Tableau) → tableau_after problem cells pivots ≡ Some old → IsSound old)
          → IsSound tableau
      by None is_o next sound = missing next
      by (Some old) is_o next sound =
          sound_turned cells old tableau (sound old is_o) (iteration_of problem None old) refl next

  pub last_basic : (tableau : Tableau) → IsProblem problem → IsLastTableau problem tableau
      → IsBasic problem tableau
  last_basic tableau valid last =
      (sound_after valid last.cells last.reached.pivots tableau last.reached.is).basic
