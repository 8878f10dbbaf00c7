-- The values of the indices that rows stand for, where every other index has the value 0.
use Rattle.std.proofs.Common.{◌≡◌, ◌≢◌, ◌⊎◌, inl, inr, ℕ, zero, suc, ◌<◌, ◌==◌, Bool, true, false, if◌then◌else◌, List, [], ◌∷◌, slice_index, ℤ, pos, ◌+ℤ◌, ◌*ℤ◌, ◌≤ℤ◌, ◌<ℤ◌, refl, sym, ap, ◌∙◌, arith}
use Rattle.std.proofs.lemmas.Bool.Decides.{eqb_tells}
use Rattle.row_arena.specs.declared.entry.Entry.{Entry}
use Rattle.row_arena.specs.Rows.{entry_at, value_in}
use Rattle.scaled_simplex.specs.Derived.{row_with}
use Rattle.scaled_simplex.proofs.EntryLaws.{Tells, value_other}
use Rattle.row_arena.proofs.WholeLaws.{above_times, linear, low_back, low_times, times_moved, times_sum, times_zero, zero_times}

last_or : (k n : ℕ) → k < suc n → (k < n) ⊎ (k ≡ n)
last_or k n small = grind arith

-- the first so many rows' indices, each with its value
abbrev pub held : List ℕ → (ℕ → ℤ) → ℕ → List Entry
held basis share zero = []
held basis share (suc k) =
    record { column = slice_index basis k; value = share k } ∷ held basis share k

module _ (basis : List ℕ) where
  abbrev pub one_held : (ℕ → ℤ) → ℕ → Entry
  one_held share k = record { column = slice_index basis k; value = share k }

  -- a row that has no entry at them
  pub held_none : (share : ℕ → ℤ) (row : List Entry) (count : ℕ)
      → ((j : ℕ) → j < count → entry_at row (slice_index basis j) ≡ pos 0)
      → row_with (held basis share count) row ≡ pos 0
  held_none share row zero none = refl
  held_none share row (suc k) none =
      let here = ap (λ n. n *ℤ share k) (none k (omega arith)) in
      let zero_here = zero_times (share k) in
      let more = held_none share row k (λ j small. none j (omega (arith, small))) in
      omega (arith, linear, here, zero_here, more)

  -- and one that has an entry at one of them
  pub held_one : (share : ℕ → ℤ) (row : List Entry) (j count : ℕ) → j < count
      → ((i : ℕ) → i < count → i ≢ j → entry_at row (slice_index basis i) ≡ pos 0)
      → row_with (held basis share count) row ≡ entry_at row (slice_index basis j) *ℤ share j
  held_one share row j zero small none = absurd (omega (arith, small))
  held_one share row j (suc k) small none =
      by (last_or j k small)
      (λ before. held_one share row j k before
      (λ i below other. none i (omega (arith, below)) other))
    where
      by : (j < k) ⊎ (j ≡ k)
          → (j < k → row_with (held basis share k) row
          ≡ entry_at row (slice_index basis j) *ℤ share j)
          → (entry_at row (slice_index basis k) *ℤ share k) +ℤ row_with (held basis share k) row
          ≡ entry_at row (slice_index basis j) *ℤ share j
      by (inl before) rest =
          let here = ap (λ n. n *ℤ share k)
          (none k (omega arith) (λ e. omega (arith, e, before))) in
          let zero_here = zero_times (share k) in
          let more = rest before in
          omega (arith, linear, here, zero_here, more)
      by (inr at) rest =
          let more = held_none share row k
          (λ i below. none i (omega (arith, below)) (λ e. omega (arith, e, below, at))) in
          let here = ap (λ n. entry_at row (slice_index basis n) *ℤ share n) at in
          omega (arith, linear, here, more)

  -- past them all
  pub held_past : (share : ℕ → ℤ) (count index : ℕ)
      → ((j : ℕ) → j < count → slice_index basis j < index)
      → entry_at (held basis share count) index ≡ pos 0
  held_past share zero index below = refl
  held_past share (suc k) index below =
      let small = below k (omega arith) in
      let here = value_other index (one_held share k) (λ e. omega (arith, e, small)) in
      let more = held_past share k index (λ j less. below j (omega (arith, less))) in
      omega (arith, linear, here, more)

  -- none below 0
  pub held_low : (share : ℕ → ℤ) (count index : ℕ) → ((j : ℕ) → j < count → pos 0 ≤ℤ share j)
      → pos 0 ≤ℤ entry_at (held basis share count) index
  held_low share zero index low = omega (arith, linear)
  held_low share (suc k) index low =
      let here = once (slice_index basis k == index) (low k (omega arith)) in
      let more = held_low share k index (λ j less. low j (omega (arith, less))) in
      omega (arith, linear, here, more)
    where
      once : (b : Bool) → pos 0 ≤ℤ share k → pos 0 ≤ℤ (if b then share k else pos 0)
      once true least = least
      once false least = omega (arith, linear)

  -- each so often as it was
  pub held_times : (weight : ℤ) (share : ℕ → ℤ) (count index : ℕ)
      → entry_at (held basis (λ k. weight *ℤ share k) count) index
      ≡ weight *ℤ entry_at (held basis share count) index
  held_times weight share zero index = sym (times_zero weight)
  held_times weight share (suc k) index =
      let here = once (slice_index basis k == index) in
      let more = held_times weight share k index in
      let both = times_sum weight (value_in index (one_held share k))
      (entry_at (held basis share k) index) in
      omega (arith, linear, here, more, both)
    where
      once : (b : Bool) → (if b then weight *ℤ share k else pos 0)
          ≡ weight *ℤ (if b then share k else pos 0)
      once true = refl
      once false = sym (times_zero weight)

-- So many fractions over one denominator.
pub record AreShares (entry right : ℕ → ℤ) (count : ℕ) (share : ℕ → ℤ) (denominator : ℤ)
    : Type 0 where
  pub positive : pos 0 <ℤ denominator
  pub each : (k : ℕ) → k < count → entry k *ℤ share k ≡ right k *ℤ denominator

module _ (entry right : ℕ → ℤ) where
  -- there are such
  abbrev pub HasShares : ℕ → Type 0
  HasShares count =
      (share : ℕ → ℤ) × (denominator : ℤ) × AreShares entry right count share denominator

  abbrev one_more : ℕ → (ℕ → ℤ) → ℤ → ℕ → ℤ
  one_more k share denominator j =
      if j == k then right k *ℤ denominator else entry k *ℤ share j

  pub has_shares : (count : ℕ) → ((k : ℕ) → k < count → pos 0 <ℤ entry k) → HasShares count
  has_shares zero above = (
    λ k. pos 0,
    pos 1,
    record {
      positive = omega (arith, linear);
      each = λ k small. absurd (omega (arith, small));
    },
  )
  has_shares (suc k) above =
      more (has_shares k (λ j small. above j (omega (arith, small))))
    where
      more : HasShares k → HasShares (suc k)
      more has = (
        one_more k has.0 has.1,
        entry k *ℤ has.1,
        record {
          positive = above_times (entry k) has.1 (above k (omega arith)) has.2.positive;
          each = λ j small. by j (eqb_tells j k) (last_or j k small);
        },
      )
        where
          by : (j : ℕ) → Tells j k → (j < k) ⊎ (j ≡ k)
              → entry j *ℤ one_more k has.0 has.1 j ≡ right j *ℤ (entry k *ℤ has.1)
          by j (inl same) either =
              ap (λ (b : Bool). entry j *ℤ (if b then right k *ℤ has.1 else entry k *ℤ has.0 j))
              same.0
              ∙ ap (λ n. entry n *ℤ (right k *ℤ has.1)) same.1
              ∙ times_moved (entry k) (right k) has.1
              ∙ ap (λ n. right n *ℤ (entry k *ℤ has.1)) (sym same.1)
          by j (inr other) (inr same) = absurd (other.1 same)
          by j (inr other) (inl before) =
              ap (λ (b : Bool). entry j *ℤ (if b then right k *ℤ has.1 else entry k *ℤ has.0 j))
              other.0
              ∙ times_moved (entry j) (entry k) (has.0 j)
              ∙ ap (λ n. entry k *ℤ n) (has.2.each j before)
              ∙ times_moved (entry k) (right j) has.1

  -- and none of them is below 0
  pub shares_low : (count : ℕ) (share : ℕ → ℤ) (denominator : ℤ)
      → AreShares entry right count share denominator
      → ((k : ℕ) → k < count → pos 0 <ℤ entry k) → ((k : ℕ) → k < count → pos 0 ≤ℤ right k)
      → (k : ℕ) → k < count → pos 0 ≤ℤ share k
  shares_low count share denominator are above low k small =
      let whole = are.each k small in
      let some = are.positive in
      let product = low_times (right k) denominator (low k small) (omega (arith, linear, some)) in
      low_back (entry k) (share k) (above k small) (omega (arith, linear, whole, product))
