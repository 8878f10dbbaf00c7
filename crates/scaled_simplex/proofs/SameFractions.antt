-- A tableau has one point in numbers at the most, over the denominators in lowest terms.
use Rattle.std.proofs.Common.{◌≡◌, ◌↔◌, ◌/◌, ◌%◌, ◌⊎◌, inl, inr, ℕ, ◌<◌, ◌≤◌, List, get_or, length, ℤ, pos, negsuc, nat_abs, ◌<ℤ◌, sym, ap, ap₂, ◌∙◌, subst, arith}
use Rattle.std.specs.Int.{IsGcd}
use Rattle.std.proofs.lemmas.Int.{ints}
use Rattle.std.proofs.lemmas.List.{ext_get_or}
use Rattle.std.proofs.lemmas.Nat.Gcd.{dvd_of_mod-eq-zero, le_of_dvd}
use Rattle.scaled_simplex.specs.declared.fractions.Fractions.{Fractions}
use Rattle.scaled_simplex.specs.declared.fractions.Fractions.TheVariants.{Point, TooWide}
use Rattle.scaled_simplex.specs.Board.{IsBasic}
use Rattle.scaled_simplex.specs.Fractions.{AreFractions, AreLast, AreNumerators, ArePoint, AreTooWide, IsMultiple, IsWhole, bottom_at, top_at}
use Rattle.scaled_simplex.specs.Program.{IsProblem, Problem, columns}
use Rattle.scaled_simplex.specs.Run.{Outcome}
use Rattle.scaled_simplex.specs.LastTableau.{IsLastTableau}
use Rattle.scaled_simplex.specs.Tableau.{Tableau}
use Rattle.scaled_simplex.proofs.LastTableaus.{last_basic, last_same}
use Rattle.scaled_simplex.proofs.LowestFacts.{lowest_whole}
use Rattle.row_arena.proofs.WholeLaws.{same_back}
use Rattle.scaled_simplex.proofs.QuotientFacts.{bottom_above}

-- numbers above 0 that are as far from it
same_size : (a b : ℤ) → pos 0 <ℤ a → pos 0 <ℤ b → nat_abs a ≡ nat_abs b → a ≡ b
same_size (pos a) (pos b) one two same = ap pos same
same_size (pos a) (negsuc b) one two same = absurd (omega (arith, ints, two))
same_size (negsuc a) b one two same = absurd (omega (arith, ints, one))

module _ (problem : Problem) (tableau : Tableau) where
  multiple_le : (few many first second : ℕ) → few ≤ many → IsMultiple problem tableau few first
      → IsMultiple problem tableau many second → first ≤ second
  multiple_le few many first second le one two =
      le_of_dvd two.positive (dvd_of_mod-eq-zero first
      (one.least second (λ k small. two.whole k (omega (arith, small, le)))))

  multiple_same : (count first second : ℕ) → IsMultiple problem tableau count first
      → IsMultiple problem tableau count second → first ≡ second
  multiple_same count first second one two =
      let up = multiple_le count count first second (omega arith) one two in
      let down = multiple_le count count second first (omega arith) two one in
      omega (arith, up, down)

  never_both : (numerators : List ℤ) (denominator : ℤ) (count : ℕ) (multiple : ℤ)
      → ArePoint problem tableau numerators denominator
      → AreTooWide problem tableau count multiple → ⊥
  never_both numerators denominator count multiple point wide =
      let le = multiple_le count (columns problem) (nat_abs multiple) (nat_abs denominator)
      wide.within wide.multiple_is point.multiple in
      let near = point.near in
      let far = wide.far in omega (arith, le, near, far)

  never_fewer : (few many : ℕ) (first second : ℤ) → few < many
      → AreTooWide problem tableau few first → AreTooWide problem tableau many second → ⊥
  never_fewer few many first second less one two =
      let near = two.first few (nat_abs first) less one.multiple_is in
      let far = one.far in omega (arith, near, far)

  wide_same : (count other : ℕ) (first second : ℤ) → AreTooWide problem tableau count first
      → AreTooWide problem tableau other second → TooWide count first ≡ TooWide other second
  wide_same count other first second one two = by (order count other)
    where
      order : (m n : ℕ) → (m < n) ⊎ ((n < m) ⊎ (m ≡ n))
      order m n = grind arith

      by : (count < other) ⊎ ((other < count) ⊎ (count ≡ other))
          → TooWide count first ≡ TooWide other second
      by (inl less) = absurd (never_fewer count other first second less one two)
      by (inr (inl more)) = absurd (never_fewer other count second first more two one)
      by (inr (inr same)) =
          ap₂ TooWide same (same_size first second one.positive two.positive
          (multiple_same other (nat_abs first) (nat_abs second)
          (subst (λ n. IsMultiple problem tableau n (nat_abs first)) same one.multiple_is)
          two.multiple_is))

  module _ (basic : IsBasic problem tableau) where
    numerators_same : (denominator : ℤ) (first second : List ℤ) → length first ≡ columns problem
        → length second ≡ columns problem → AreNumerators problem tableau denominator first
        → AreNumerators problem tableau denominator second → first ≡ second
    numerators_same denominator first second long other_long one two =
        ext_get_or (pos 0) first second (long ∙ sym other_long)
        (λ k small.
        let within : k < columns problem = omega (arith, small, long) in
        same_back (bottom_at problem tableau k) (get_or first k (pos 0))
        (get_or second k (pos 0)) (bottom_above problem tableau k basic)
        (one.each k within ∙ sym (two.each k within)))

    point_same : (first second : List ℤ) (denominator other : ℤ)
        → ArePoint problem tableau first denominator → ArePoint problem tableau second other
        → Point first denominator ≡ Point second other
    point_same first second denominator other one two =
        let same : denominator ≡ other =
        same_size denominator other one.positive two.positive
        (multiple_same (columns problem) (nat_abs denominator) (nat_abs other) one.multiple
        two.multiple) in
        ap₂ Point
        (numerators_same other first second one.count two.count
        (subst (λ d. AreNumerators problem tableau d first) same one.are) two.are)
        same

    fractions_same : (first second : Fractions) → AreFractions problem tableau first
        → AreFractions problem tableau second → first ≡ second
    fractions_same (Point first denominator) (Point second other) one two =
        point_same first second denominator other one two
    fractions_same (Point first denominator) (TooWide count multiple) one two =
        absurd (never_both first denominator count multiple one two)
    fractions_same (TooWide count multiple) (Point second other) one two =
        absurd (never_both second other count multiple two one)
    fractions_same (TooWide count first) (TooWide other second) one two =
        wide_same count other first second one two

pub last_fractions_same : (problem : Problem) (outcome other : Outcome) (first second : Fractions)
    → IsProblem problem → AreLast problem outcome first → AreLast problem other second
    → first ≡ second
last_fractions_same problem outcome other first second valid one two =
    let same = last_same problem two.tableau one.tableau two.last one.last in
    fractions_same problem one.tableau (last_basic problem one.tableau valid one.last) first second
    one.are (subst (λ t. AreFractions problem t second) same two.are)

-- and by what a value of it is whole
pub last_whole : (problem : Problem) (tableau : Tableau) (column divisor times : ℕ)
    → IsProblem problem → IsLastTableau problem tableau
    → IsGcd (nat_abs (top_at problem tableau column)) (nat_abs (bottom_at problem tableau column))
    divisor → IsWhole problem tableau column times
    ↔ (times % (nat_abs (bottom_at problem tableau column) / divisor) ≡ 0)
last_whole problem tableau column divisor times valid last gcd =
    lowest_whole (nat_abs (top_at problem tableau column))
    (nat_abs (bottom_at problem tableau column)) divisor
    (size (bottom_at problem tableau column)
    (bottom_above problem tableau column (last_basic problem tableau valid last))) gcd times
  where
    size : (z : ℤ) → pos 0 <ℤ z → 0 < nat_abs z
    size (pos n) some = omega (arith, ints, some)
    size (negsuc n) some = absurd (omega (arith, ints, some))
