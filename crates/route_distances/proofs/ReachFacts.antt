-- Marks that are set one after the other.
use Rattle.std.proofs.Common.{◌≡◌, ℕ, ◌+◌, Bool, false, List, [], ◌∷◌, ◌++◌, slice_index_or, inl, inr, sym, ◌∙◌, subst, arith}
use Rattle.std.proofs.lemmas.Bool.{cases_lt}
use Rattle.std.proofs.lemmas.List.{get_or_past}
use Rattle.exact_sums.proofs.EachFacts.{each_more}
use Rattle.flow_types.specs.declared.flight.Leg.{Leg}
use Rattle.route_distances.specs.Walks.{leads_into, reach_upto}
use Rattle.route_distances.specs.Ways.{AreReached}
use Rattle.route_distances.proofs.WalkFacts.{leads_same, reach_is, reach_past, reach_stays}

-- those of later nodes aren't set
reached_upto : (legs : List Leg) (from count : ℕ) (marks : List Bool)
    → AreReached legs from count marks
    → (node : ℕ) → slice_index_or marks node false ≡ reach_upto legs from count node
reached_upto legs from count marks are node =
    elim (cases_lt node count)
    as (λ _. slice_index_or marks node false ≡ reach_upto legs from count node) [
      | inl less ↦ are.each node less ∙ sym (reach_stays legs from count node less)
      | inr more ↦ get_or_past marks node false (omega (arith, more, are.long))
          ∙ sym (reach_past legs from count node more)
    ]

pub one_more : (legs : List Leg) (from count : ℕ) (marks held now : List Bool) (mark : Bool)
    → AreReached legs from count marks → held ≡ marks
    → mark ≡ leads_into (λ n. slice_index_or held n false) from count legs
    → now ≡ marks ++ mark ∷ [] → AreReached legs from (count + 1) now
one_more legs from count marks held now mark before same is new =
    each_more before
    (subst (λ all. mark ≡ leads_into (λ n. slice_index_or all n false) from count legs) same is
    ∙ leads_same (λ n. slice_index_or marks n false) (reach_upto legs from count) from count legs
    (reached_upto legs from count marks before)
    ∙ sym (reach_is legs from count)) new
