-- Lists that grow by an item: what holds of each by its number.
use Rattle.std.proofs.Common.{◌≡◌, ℕ, ◌+◌, List, [], ◌∷◌, ◌++◌, get_or, inl, inr, refl, sym, subst, arith}
use Rattle.std.proofs.lemmas.Bool.{cases_lt}
use Rattle.std.proofs.lemmas.List.{get_or_append_left, get_or_push, length-append}
use Rattle.exact_sums.specs.Lists.{AreEach}

module _ {X : Type 0} {P : ℕ → X → Type 0} {none : X} where
  pub each_none : AreEach P none 0 []
  each_none = record { long = refl; each = λ k below. absurd (omega (arith, below)) }

  pub each_more : {count : ℕ} {x : X} {old new : List X} → AreEach P none count old
      → P count x → new ≡ old ++ x ∷ [] → AreEach P none (count + 1) new
  each_more {count} {x} {old} {new} so_far is added =
      subst (AreEach P none (count + 1)) (sym added) (record {
        long = omega (arith, length-append old (x ∷ []), so_far.long);
        each = λ k below. elim (cases_lt k count)
            as (λ _. P k (get_or (old ++ x ∷ []) k none)) [
              | inl less ↦ subst (P k) (sym (get_or_append_left old (x ∷ []) none k
                  (omega (arith, less, so_far.long)))) (so_far.each k less)
              | inr more ↦
                  let here : count ≡ k = omega (arith, more, below) in
                  subst (λ n. P n (get_or (old ++ x ∷ []) n none)) here
                  (subst (P count) (sym (get_or_push old x none count so_far.long)) is)
            ];
      })
