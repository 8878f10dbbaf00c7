-- The same point over another denominator.
use Rattle.std.proofs.Common.{◌≡◌, ℕ, ◌+◌, ◌<◌, ◌≤◌, List, [], ◌∷◌, All, get_or, length, ℤ, pos, ◌-ℤ◌, ◌*ℤ◌, ◌≤ℤ◌, ◌<ℤ◌, sym, ap, ◌∙◌, arith}
use Rattle.std.proofs.lemmas.List.Elements.{All-head, All-tail}
use Rattle.row_arena.specs.declared.entry.Entry.{Entry}
use Rattle.scaled_simplex.specs.LastPoint.{IsWorth}
use Rattle.scaled_simplex.specs.Points.{ConstraintHolds, IsProgramPoint, costs_at, point_cost, terms_at}
use Rattle.scaled_simplex.specs.Program.{Constraint, IsConstraint, IsProblem, Problem, columns}
use Rattle.scaled_simplex.specs.Run.{Outcome, value_in, weight_in}
use Rattle.row_arena.proofs.WholeLaws.{linear, low_back, low_times, same_back, times_assoc, times_comm, times_less, times_moved, times_sum, times_zero}

module _ (d e : ℤ) (f g : ℕ → ℤ) (n : ℕ)
    (each : (k : ℕ) → k < n → e *ℤ f k ≡ d *ℤ g k) where
  terms_scaled : (terms : List Entry) → All (λ term. term.column < n) terms
      → e *ℤ terms_at terms f ≡ d *ℤ terms_at terms g
  terms_scaled [] within = times_zero e ∙ sym (times_zero d)
  terms_scaled (term ∷ terms) within =
      let small : term.column < n = All-head (λ term. term.column < n) term terms within in
      let here = times_moved e term.value (f term.column)
      ∙ ap (λ x. term.value *ℤ x) (each term.column small)
      ∙ times_moved term.value d (g term.column) in
      let more = terms_scaled terms (All-tail (λ term. term.column < n) term terms within) in
      let one = times_sum e (term.value *ℤ f term.column) (terms_at terms f) in
      let two = times_sum d (term.value *ℤ g term.column) (terms_at terms g) in
      omega (arith, linear, here, more, one, two)

  costs_scaled : (costs : List ℤ) (from : ℕ) → from + length costs ≤ n
      → e *ℤ costs_at f from costs ≡ d *ℤ costs_at g from costs
  costs_scaled [] from few = times_zero e ∙ sym (times_zero d)
  costs_scaled (c ∷ costs) from few =
      let here = times_moved e c (f from) ∙ ap (λ x. c *ℤ x) (each from (omega (arith, few)))
      ∙ times_moved c d (g from) in
      let more = costs_scaled costs (from + 1) (omega (arith, few)) in
      let one = times_sum e (c *ℤ f from) (costs_at f (from + 1) costs) in
      let two = times_sum d (c *ℤ g from) (costs_at g (from + 1) costs) in
      omega (arith, linear, here, more, one, two)

module _ (problem : Problem) (valid : IsProblem problem) (d e : ℤ) (f g : ℕ → ℤ)
    (above : pos 0 <ℤ d)
    (each : (k : ℕ) → k < columns problem → e *ℤ f k ≡ d *ℤ g k) where
  low_scaled : IsProgramPoint problem g e → (k : ℕ) → k < columns problem → pos 0 ≤ℤ f k
  low_scaled is k small =
      let whole = each k small in
      let low = low_times d (g k) (omega (arith, linear, above)) (is.least k small) in
      low_back e (f k) is.positive (omega (arith, linear, whole, low))

  kept_scaled : IsProgramPoint problem g e → (c : Constraint) → IsConstraint (columns problem) c
      → ConstraintHolds g e c → ConstraintHolds f d c
  kept_scaled is c valid_c kept =
      let terms = terms_scaled d e f g (columns problem) each c.terms valid_c.within in
      let left = (c.limit *ℤ e) -ℤ terms_at c.terms g in
      let low = low_times d left (omega (arith, linear, above)) (omega (arith, linear, kept)) in
      let one = times_less d (c.limit *ℤ e) (terms_at c.terms g) in
      let two = times_less e (c.limit *ℤ d) (terms_at c.terms f) in
      let three = times_moved e c.limit d ∙ ap (λ n. c.limit *ℤ n) (times_comm e d)
      ∙ times_moved c.limit d e in
      let back = low_back e ((c.limit *ℤ d) -ℤ terms_at c.terms f) is.positive
      (omega (arith, linear, terms, low, one, two, three)) in
      omega (arith, linear, back)

  point_scaled : IsProgramPoint problem g e → IsProgramPoint problem f d
  point_scaled is = record {
    positive = above;
    least = low_scaled is;
    kept = λ k c small.
        kept_scaled is (get_or problem.constraints k c) (valid.constraints k c small)
        (is.kept k c small);
  }

  cost_scaled : e *ℤ point_cost problem f d ≡ d *ℤ point_cost problem g e
  cost_scaled =
      let costs = costs_scaled d e f g (columns problem) each problem.costs 0 (omega arith) in
      let one = times_sum e (problem.constant *ℤ d) (costs_at f 0 problem.costs) in
      let two = times_sum d (problem.constant *ℤ e) (costs_at g 0 problem.costs) in
      let three = times_moved e problem.constant d
      ∙ ap (λ n. problem.constant *ℤ n) (times_comm e d) ∙ times_moved problem.constant d e in
      omega (arith, linear, costs, one, two, three)

  pub worth_scaled : (outcome : Outcome) → IsWorth problem outcome g e
      → IsWorth problem outcome f d
  worth_scaled outcome is = record {
    point = point_scaled is.point;
    worth =
        let weight = weight_in problem outcome in
        let value = value_in problem outcome in
        let cost = point_cost problem f d in
        let old = point_cost problem g e in
        same_back e (cost *ℤ weight) (value *ℤ d) is.point.positive
        (sym (times_assoc e cost weight) ∙ ap (λ n. n *ℤ weight) cost_scaled
        ∙ times_assoc d old weight ∙ ap (λ n. d *ℤ n) is.worth ∙ times_moved d value e
        ∙ ap (λ n. value *ℤ n) (times_comm d e) ∙ times_moved value e d);
  }
