-- What is kept where a row is turned round, or cleared by another.
use Rattle.std.proofs.Common.{◌≡◌, ℕ, List, pos, ◌-ℤ◌, ◌*ℤ◌, ◌≤ℤ◌, ◌<ℤ◌, ap, arith}
use Rattle.row_arena.specs.declared.entry.Entry.{Entry}
use Rattle.row_arena.specs.Combining.{cleared, difference}
use Rattle.row_arena.specs.Rows.{entry_at, negated}
use Rattle.scaled_simplex.specs.Program.{Problem}
use Rattle.scaled_simplex.proofs.Checks.{IsMade, made_combined}
use Rattle.scaled_simplex.proofs.EntryLaws.{cleared_by, divisor_above, entry_cleared, entry_negated}
use Rattle.row_arena.proofs.WholeLaws.{above_back, above_times, below_back, linear, one_times, times_comm, times_zero, zero_back, zero_times}

-- a row that is turned round
pub made_negated : (problem : Problem) (row : List Entry) → IsMade problem row
    → IsMade problem (negated row)
made_negated problem row made =
    made_combined problem (pos 1) (pos 0) (pos 1) row row (negated row)
    (λ k. let turned = entry_negated row k in
    let one = one_times (entry_at (negated row) k) in
    let two = one_times (entry_at row k) in
    let none = zero_times (entry_at row k) in
    omega (arith, linear, turned, one, two, none))
    (omega (arith, linear)) made made

-- a row that is cleared
module _ (column : ℕ) (target by : List Entry) where
  above : pos 0 <ℤ pos (cleared_by column target by)
  above =
      let some = divisor_above (difference (entry_at by column) (entry_at target column) target by)
      in omega (arith, linear, some)

  pub made_cleared : (problem : Problem) → IsMade problem target → IsMade problem by
      → IsMade problem (cleared column target by)
  made_cleared problem made made_by =
      made_combined problem (pos (cleared_by column target by)) (entry_at by column)
      (entry_at target column) target by (cleared column target by)
      (entry_cleared column target by) above made made_by

  pub cleared_zero : (k : ℕ) → entry_at target k ≡ pos 0 → entry_at by k ≡ pos 0
      → entry_at (cleared column target by) k ≡ pos 0
  cleared_zero k none none_by =
      let whole = entry_cleared column target by k in
      let one = ap (λ n. entry_at by column *ℤ n) none in
      let two = ap (λ n. entry_at target column *ℤ n) none_by in
      let three = times_zero (entry_at by column) in
      let four = times_zero (entry_at target column) in
      zero_back (pos (cleared_by column target by)) (entry_at (cleared column target by) k) above
      (omega (arith, linear, whole, one, two, three, four))

  pub cleared_above : (k : ℕ) → pos 0 <ℤ entry_at by column → pos 0 <ℤ entry_at target k
      → entry_at by k ≡ pos 0 → pos 0 <ℤ entry_at (cleared column target by) k
  cleared_above k pivot some none_by =
      let whole = entry_cleared column target by k in
      let one = above_times (entry_at by column) (entry_at target k) pivot some in
      let two = ap (λ n. entry_at target column *ℤ n) none_by in
      let three = times_zero (entry_at target column) in
      above_back (pos (cleared_by column target by)) (entry_at (cleared column target by) k) above
      (omega (arith, linear, whole, one, two, three))

  pub cleared_low : (k : ℕ)
      → ((entry_at by column *ℤ entry_at target k) -ℤ (entry_at target column *ℤ entry_at by k))
      ≤ℤ pos 0 → entry_at (cleared column target by) k ≤ℤ pos 0
  cleared_low k low =
      let whole = entry_cleared column target by k in
      below_back (pos (cleared_by column target by)) (entry_at (cleared column target by) k) above
      (omega (arith, linear, whole, low))

  pub cleared_there : entry_at (cleared column target by) column ≡ pos 0
  cleared_there =
      let whole = entry_cleared column target by column in
      let same = times_comm (entry_at by column) (entry_at target column) in
      zero_back (pos (cleared_by column target by))
      (entry_at (cleared column target by) column) above (omega (arith, linear, whole, same))
