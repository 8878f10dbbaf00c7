-- Whether a trip has entered a node by a period, as a number.
use Rattle.std.proofs.Common.{◌≡◌, ◌⊎◌, ℕ, ◌≤◌, ◌==◌, Bool, true, false, ◌&&◌, ◌||◌, nat_le, List, [], ◌∷◌, inl, inr, refl, arith}
use Rattle.std.proofs.lemmas.Bool.Decides.{nat_tests}
use Rattle.std.specs.List.{list_any}
use Rattle.flow_types.specs.declared.plan.Stop.{Stop}
use Rattle.flow_types.specs.Counts.{one_if}
use Rattle.bytime_model.specs.Values.{by_of}

-- the stop is at the node by the period
abbrev pub is_by : ℕ → ℕ → Stop → Bool
is_by node time stop = (stop.node == node) && nat_le stop.time time

pub record IsBy (node time : ℕ) (stop : Stop) : Type 0 where
  pub there : stop.node ≡ node
  pub early : stop.time ≤ time
  pub told : is_by node time stop ≡ true

pub record IsNotBy (node time : ℕ) (stop : Stop) : Type 0 where
  pub apart : stop.node ≡ node → stop.time ≤ time → ⊥
  pub told : is_by node time stop ≡ false

pub by_cases : (node time : ℕ) (stop : Stop) → IsBy node time stop ⊎ IsNotBy node time stop
by_cases node time stop = by (stop.node == node) (nat_le stop.time time) refl refl
  where
    by : (a b : Bool) → (stop.node == node) ≡ a → nat_le stop.time time ≡ b
        → IsBy node time stop ⊎ IsNotBy node time stop
    by true true is in_time = inl (record {
      there = grind (arith, nat_tests);
      early = grind (arith, nat_tests);
      told = rw (is, in_time) refl;
    })
    by true false is in_time = inr (record {
      apart = λ same before. absurd (let no : nat_le stop.time time ≡ true =
          grind (arith, nat_tests)
          in let bad : ⊥ = cc in bad);
      told = rw (is, in_time) refl;
    })
    by false b is in_time = inr (record {
      apart = λ same before. absurd (let no : (stop.node == node) ≡ true = grind (arith, nat_tests)
          in let bad : ⊥ = cc in bad);
      told = rw is refl;
    })

module _ (node time : ℕ) (stop : Stop) (rest : List Stop) where
  pub by_here : IsBy node time stop → by_of node time (stop ∷ rest) ≡ 1
  by_here is = rw is.told refl

  pub by_skip : IsNotBy node time stop → by_of node time (stop ∷ rest) ≡ by_of node time rest
  by_skip is = rw is.told refl

  pub by_grows : by_of node time rest ≤ by_of node time (stop ∷ rest)
  by_grows = by (is_by node time stop) (list_any (is_by node time) rest)
    where
      by : (a b : Bool) → one_if b ≤ one_if (a || b)
      by true true = omega arith
      by true false = omega arith
      by false b = omega arith

pub by_few : (node time : ℕ) (stops : List Stop) → by_of node time stops ≤ 1
by_few node time stops = by (list_any (is_by node time) stops)
  where
    by : (b : Bool) → one_if b ≤ 1
    by true = omega arith
    by false = omega arith

-- what is entered by a period is entered by a later one
pub by_later : (node time later : ℕ) (stops : List Stop) → time ≤ later
    → by_of node time stops ≤ by_of node later stops
by_later node time later [] le = omega arith
by_later node time later (stop ∷ rest) le =
    elim (by_cases node later stop) as (λ _. by_of node time (stop ∷ rest)
    ≤ by_of node later (stop ∷ rest)) [
      | inl is ↦ omega (arith, by_few node time (stop ∷ rest), by_here node later stop rest is)
      | inr not ↦
          let early : IsNotBy node time stop = record {
            apart = λ same before. not.apart same (omega (arith, before, le));
            told = not_by node time stop
                (λ same before. not.apart same (omega (arith, before, le)));
          } in
          omega (
            arith,
            by_skip node time stop rest early,
            by_skip node later stop rest not,
            by_later node time later rest le,
          )
    ]
  where
    not_by : (n t : ℕ) (s : Stop) → (s.node ≡ n → s.time ≤ t → ⊥) → is_by n t s ≡ false
    not_by n t s apart = elim (by_cases n t s) as (λ _. is_by n t s ≡ false) [
      | inl is ↦ absurd (apart is.there is.early)
      | inr not ↦ not.told
    ]
