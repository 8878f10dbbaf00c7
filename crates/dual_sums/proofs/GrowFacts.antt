-- Sums grow by forms, one after the other.
use Rattle.std.proofs.Common.{◌≡◌, ℕ, ◌+◌, ◌*◌, ◌^◌, ◌<◌, ◌≤◌, List, [], ◌∷◌, length, get_or, take, ℤ, pos, ◌+ℤ◌, ◌*ℤ◌, unsigned_abs, refl, sym, ap, ◌∙◌, arith, take_all}
use Rattle.std.proofs.lemmas.Int.{ints}
use Rattle.std.proofs.lemmas.List.{take_more}
use Rattle.bytime_model.specs.declared.variables.Term.{Term}
use Rattle.bytime_model.specs.declared.variables.Var.{Var}
use Rattle.bytime_model.specs.Values.{form_value}
use Rattle.bytime_model.proofs.FormFacts.{form-append}
use Rattle.dual_sums.specs.Growing.{Grows}
use Rattle.dual_sums.specs.Sums.{Summed, mass, sum_at}
use Rattle.std.proofs.Math.IntN.{*ℤ-zero}
use Rattle.dual_sums.proofs.TimesFacts.{times-plus, times-times}

module _ (at : (ℕ → ℕ) → Var → ℕ) where
  -- by nothing
  pub grows_none : (form : (Var → ℕ) → ℤ) (sums : Summed)
      → ((value : Var → ℕ) → form value ≡ pos 0) → Grows at form 0 sums sums
  grows_none form sums none = record {
    sum = λ bit. let zero_of = none (at bit) in omega (arith, ints, zero_of);
    mass = omega arith;
    same = refl;
  }

  -- by one and then by another
  pub grows_then : (one two both : (Var → ℕ) → ℤ) (m n size : ℕ) (start old new : Summed)
      → Grows at one m start old → Grows at two n old new
      → ((value : Var → ℕ) → both value ≡ one value +ℤ two value) → m + n ≤ size
      → Grows at both size start new
  grows_then one two both m n size start old new first second split upto = record {
    sum = λ bit. let a = first.sum bit in let b = second.sum bit in let c = split (at bit) in
        omega (arith, ints, a, b, c);
    mass = let a = first.mass in let b = second.mass in omega (arith, a, b, upto);
    same = second.same ∙ first.same;
  }

  -- by what is the same
  pub grows_as : (one two : (Var → ℕ) → ℤ) (m size : ℕ) (old new : Summed)
      → Grows at one m old new → ((value : Var → ℕ) → two value ≡ one value) → m ≤ size
      → Grows at two size old new
  grows_as one two m size old new grows same upto = record {
    sum = λ bit. grows.sum bit ∙ ap (λ n. sum_at bit old +ℤ n) (sym (same (at bit)));
    mass = let a = grows.mass in omega (arith, a, upto);
    same = grows.same;
  }

  pub term_grows : (bound count : ℕ) (term : Term) (more : ℤ) (old new : Summed)
      → more ≡ pos count *ℤ term.factor → unsigned_abs more < bound
      → Grows at (λ value. more *ℤ pos (value term.variable)) (unsigned_abs more) old new
      → Grows at (λ value. pos count *ℤ (term.factor *ℤ pos (value term.variable))) bound old new
  term_grows bound count term more old new is small grows =
      grows_as (λ value. more *ℤ pos (value term.variable))
      (λ value. pos count *ℤ (term.factor *ℤ pos (value term.variable))) (unsigned_abs more)
      bound old new grows
      (λ value. times-times count term.factor (value term.variable)
      ∙ ap (λ n. n *ℤ pos (value term.variable)) (sym is)) (omega (arith, small))

  pub terms_none : (count : ℕ) (terms : List Term) (sums : Summed)
      → Grows at (λ value. pos count *ℤ form_value value (take 0 terms)) (0 * 2 ^ 62) sums sums
  terms_none count terms sums = record {
    sum = λ bit. omega (arith, ints, *ℤ-zero (pos count));
    mass = omega arith;
    same = refl;
  }

  pub terms_more : (count i : ℕ) (terms : List Term) (d : Term) (start old new : Summed)
      → i < length terms
      → Grows at (λ value. pos count *ℤ form_value value (take i terms)) (i * 2 ^ 62) start old
      → Grows at (λ value. pos count
      *ℤ ((get_or terms i d).factor *ℤ pos (value (get_or terms i d).variable))) (2 ^ 62) old new
      → Grows at (λ value. pos count *ℤ form_value value (take (i + 1) terms)) ((i + 1) * 2 ^ 62)
      start new
  terms_more count i terms d start old new within before here =
      grows_then (λ value. pos count *ℤ form_value value (take i terms))
      (λ value. pos count
      *ℤ ((get_or terms i d).factor *ℤ pos (value (get_or terms i d).variable)))
      (λ value. pos count *ℤ form_value value (take (i + 1) terms)) (i * 2 ^ 62) (2 ^ 62)
      ((i + 1) * 2 ^ 62) start old new before here
      (λ value. ap (λ xs. pos count *ℤ form_value value xs) (take_more terms i d within)
      ∙ ap (λ n. pos count *ℤ n) (form-append value (take i terms) (get_or terms i d ∷ [])
      ∙ ap (λ n. form_value value (take i terms) +ℤ n) (alone value (get_or terms i d)))
      ∙ times-plus count (form_value value (take i terms))
      ((get_or terms i d).factor *ℤ pos (value (get_or terms i d).variable)))
      (omega arith)
    where
      alone : (value : Var → ℕ) (term : Term)
          → form_value value (term ∷ []) ≡ term.factor *ℤ pos (value term.variable)
      alone value term = omega (arith, ints)

  pub terms_all : (count i : ℕ) (terms : List Term) (start new : Summed) → length terms ≤ i
      → i ≤ length terms
      → Grows at (λ value. pos count *ℤ form_value value (take i terms)) (i * 2 ^ 62) start new
      → Grows at (λ value. pos count *ℤ form_value value terms) (length terms * 2 ^ 62) start new
  terms_all count i terms start new past upto grows =
      grows_as (λ value. pos count *ℤ form_value value (take i terms))
      (λ value. pos count *ℤ form_value value terms) (i * 2 ^ 62) (length terms * 2 ^ 62) start new
      grows
      (λ value. ap (λ xs. pos count *ℤ form_value value xs) (sym (take_all i terms past)))
      (omega arith)

pub lands : (at : (ℕ → ℕ) → Var → ℕ) (variable : Var) (landing : (ℕ → ℕ) → ℕ) (more : ℤ)
    (old new : Summed) → ((bit : ℕ → ℕ) → landing bit ≡ at bit variable)
    → ((bit : ℕ → ℕ) → sum_at bit new ≡ sum_at bit old +ℤ more *ℤ pos (landing bit))
    → mass new ≤ mass old + unsigned_abs more → length new.factors ≡ length old.factors
    → Grows at (λ value. more *ℤ pos (value variable)) (unsigned_abs more) old new
lands at variable landing more old new is sum mass_le same = record {
  sum = λ bit. sum bit ∙ ap (λ n. sum_at bit old +ℤ more *ℤ pos n) (is bit);
  mass = mass_le;
  same = same;
}
