-- A column's value is that of the row that stands for it.
use Rattle.std.proofs.Common.{◌≡◌, ◌≢◌, ℕ, zero, suc, ◌<◌, ◌==◌, Bool, inl, inr, List, length, slice_index, Option, None, Some, if◌then◌else◌, ℤ, pos, ◌*ℤ◌, refl, sym, ap, ◌∙◌, subst, arith}
use Rattle.std.proofs.lemmas.Bool.Decides.{eqb_tells}
use Rattle.row_arena.specs.Arena.{row_at}
use Rattle.row_arena.specs.Rows.{entry_at}
use Rattle.scaled_simplex.specs.Board.{IsBasic}
use Rattle.scaled_simplex.specs.Fractions.{IsValueAt, bottom_at, bottom_in, row_for, row_of_column, top_at, top_in}
use Rattle.scaled_simplex.specs.Program.{Problem}
use Rattle.scaled_simplex.specs.Run.{right_at}
use Rattle.scaled_simplex.specs.Tableau.{Tableau}
use Rattle.scaled_simplex.proofs.BasicRows.{basic_distinct}
use Rattle.scaled_simplex.proofs.EntryLaws.{Tells, value_other, value_same}
use Rattle.scaled_simplex.proofs.HeldValues.{AreShares, held, one_held}
use Rattle.row_arena.proofs.WholeLaws.{linear, one_times, same_back, times_comm, times_moved, zero_times}
use Rattle.scaled_simplex.proofs.QuotientFacts.{bottom_above, row_some}
use Rattle.scaled_simplex.proofs.SolvedRows.{entry_of, numerator_of}

module _ (basis : List ℕ) (share : ℕ → ℤ) (index : ℕ) where
  abbrev value_of : Option ℕ → ℤ
  value_of None = pos 0
  value_of (Some k) = share k

  -- no row stands for the index
  held_lost : (count : ℕ) → ((j : ℕ) → j < count → slice_index basis j ≢ index)
      → entry_at (held basis share count) index ≡ pos 0
  held_lost zero other = refl
  held_lost (suc k) other =
      let here = value_other index (one_held basis share k) (other k (omega arith)) in
      let more = held_lost k (λ j small. other j (omega (arith, small))) in
      omega (arith, linear, here, more)

  -- no two rows stand for one index
  pub held_value : (count : ℕ)
      → ((j k : ℕ) → j < count → k < count → k ≢ j → slice_index basis k ≢ slice_index basis j)
      → entry_at (held basis share count) index ≡ value_of (row_for basis index count)
  held_value zero distinct = refl
  held_value (suc k) distinct =
      by (eqb_tells (slice_index basis k) index)
      (held_value k (λ i j small_i small_j. distinct i j (omega (arith, small_i))
      (omega (arith, small_j))))
    where
      by : Tells (slice_index basis k) index
          → entry_at (held basis share k) index ≡ value_of (row_for basis index k)
          → entry_at (held basis share (suc k)) index
          ≡ value_of (if slice_index basis k == index then Some k else row_for basis index k)
      by (inl is) rest =
          let here = value_same index (one_held basis share k) is.1 in
          let none = held_lost k (λ j small same.
          distinct k j (omega arith) (omega (arith, small)) (λ e. omega (arith, e, small))
          (same ∙ sym is.1)) in
          let own : share k ≡ value_of (if slice_index basis k == index then Some k
          else row_for basis index k) =
          ap (λ (b : Bool). value_of (if b then Some k else row_for basis index k)) (sym is.0) in
          omega (arith, linear, here, none, own)
      by (inr isnt) rest =
          let here = value_other index (one_held basis share k) isnt.1 in
          let own : value_of (row_for basis index k)
          ≡ value_of (if slice_index basis k == index then Some k
          else row_for basis index k) =
          ap (λ (b : Bool). value_of (if b then Some k else row_for basis index k)) (sym isnt.0) in
          omega (arith, linear, here, rest, own)

-- a column's value over two denominators
module _ (problem : Problem) (tableau : Tableau) (basic : IsBasic problem tableau)
    (share : ℕ → ℤ) (e : ℤ)
    (are : AreShares (entry_of tableau) (right_at problem tableau) (length problem.constraints)
    share e) (column : ℕ) where
  numerator_value : numerator_of problem tableau share column
      ≡ value_of tableau.basis share column (row_of_column problem tableau column)
  numerator_value =
      held_value tableau.basis share column (length problem.constraints)
      (λ j k small_j small_k. basic_distinct problem tableau j k basic small_j small_k)

  pub own_value : IsValueAt problem tableau column (numerator_of problem tableau share column) e
  own_value =
      subst (λ n. IsValueAt problem tableau column n e) (sym numerator_value)
      (by (row_of_column problem tableau column) refl)
    where
      by : (o : Option ℕ) → row_of_column problem tableau column ≡ o
          → bottom_in problem tableau column o *ℤ value_of tableau.basis share column o
          ≡ top_in problem tableau o *ℤ e
      by None none = one_times (pos 0) ∙ sym (zero_times e)
      by (Some k) some =
          let is = row_some tableau.basis column (length problem.constraints) k some in
          ap (λ n. entry_at (row_at tableau.rows k) n *ℤ share k) (sym is.1)
          ∙ are.each k is.0

  pub values_scaled : (d numerator : ℤ) → IsValueAt problem tableau column numerator d
      → e *ℤ numerator ≡ d *ℤ numerator_of problem tableau share column
  values_scaled d numerator is =
      let bottom = bottom_at problem tableau column in
      let top = top_at problem tableau column in
      let own = numerator_of problem tableau share column in
      same_back bottom (e *ℤ numerator) (d *ℤ own) (bottom_above problem tableau column basic)
      (times_moved bottom e numerator ∙ ap (λ n. e *ℤ n) is ∙ times_moved e top d
      ∙ ap (λ n. top *ℤ n) (times_comm e d) ∙ times_moved top d e
      ∙ ap (λ n. d *ℤ n) (sym own_value) ∙ times_moved d bottom own)
