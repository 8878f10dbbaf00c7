use Rattle.std.proofs.Common.{◌≡◌, ◌∙◌, ℕ, List, length, replicate, ap, arith}
use Rattle.std.proofs.lemmas.List.{length-replicate}
use Rattle.flight_routes.proofs.rates.RateTable.new.Goals as goal

long : {A : Type 0} (n : ℕ) (a : A) (xs : List A) → xs ≡ replicate n a → length xs ≡ n
long n a xs is = ap length is ∙ length-replicate n a

pub returns : goal.returns
returns c = record {
  leaves = c.in_ok-no_costs.ensures;
  arrives = c.in_ok-no_costs-2.ensures;
  paid = c.in_ok-nothing_paid.ensures;
  clear = c.in_ok-all_clear.ensures;
}

pub invariant_of-result : goal.invariant_of-result
invariant_of-result c = record {
  span = omega arith;
  leaves = long _ _ _ c.in_ok-no_costs.ensures;
  arrives = long _ _ _ c.in_ok-no_costs-2.ensures;
  paid = long _ _ _ c.in_ok-nothing_paid.ensures;
  clear = long _ _ _ c.in_ok-all_clear.ensures;
}
