-- A list of distances of which one is set.
use Rattle.std.proofs.Common.{◌≡◌, ◌⊎◌, ℕ, ◌<◌, ◌≤◌, List, length, get_or, replicate, set, ap, ◌∙◌, inl, inr, arith}
use Rattle.std.proofs.lemmas.Bool.{cases_eq, cases_lt}
use Rattle.std.proofs.lemmas.List.{get_or-replicate, get_or-set_other, get_or-set_same, get_or_past, length-replicate, length-set}
use Rattle.flow_types.specs.Limits.{most_nodes, most_periods}

far_by : (n : ℕ) → (n < most_nodes) ⊎ (most_nodes ≤ n)
    → get_or (replicate most_nodes most_periods) n 0 ≤ most_periods
far_by n (inl within) =
    omega (arith, get_or-replicate most_nodes n most_periods 0 within)
far_by n (inr past) =
    let long = length-replicate most_nodes most_periods in
    omega (arith, get_or_past (replicate most_nodes most_periods) n 0 (omega (arith, long, past)))

-- none is far from the others
pub few_set : (distances : List ℕ) (at value n : ℕ) → value ≤ most_periods
    → ((k : ℕ) → get_or distances k 0 ≤ most_periods)
    → get_or (set distances at value) n 0 ≤ most_periods
few_set distances at value n few all = by (cases_eq n at) (cases_lt at (length distances))
  where
    by : (n ≡ at) ⊎ (n ≡ at → ⊥) → (at < length distances) ⊎ (length distances ≤ at)
        → get_or (set distances at value) n 0 ≤ most_periods
    by (inr other) inside =
        omega (arith, get_or-set_other distances at n value 0 other, all n)
    by (inl same) (inl inside) =
        let is = ap (λ k. get_or (set distances at value) k 0) same
        ∙ get_or-set_same distances at value 0 inside in
        omega (arith, is, few)
    by (inl same) (inr past) =
        let long = length-set distances at value in
        omega (arith, get_or_past (set distances at value) n 0 (omega (arith, long, past, same)))

pub few_first : (last n : ℕ)
    → get_or (set (replicate most_nodes most_periods) last 0) n 0 ≤ most_periods
few_first last n =
    few_set (replicate most_nodes most_periods) last 0 n (omega arith)
    (λ k. far_by k (cases_lt k most_nodes))

pub last_zero : (last : ℕ) → last < most_nodes
    → get_or (set (replicate most_nodes most_periods) last 0) last 0 ≡ 0
last_zero last within =
    get_or-set_same (replicate most_nodes most_periods) last 0 0
    (omega (arith, within, length-replicate most_nodes most_periods))
