-- Different places among others are no more than those.
use Rattle.std.proofs.Common.{◌≡◌, ◌≢◌, ℕ, suc, ◌+◌, ◌<◌, ◌≤◌, Bool, true, false, cond, eqb, ◌||◌, List, [], ◌∷◌, length, get_or, refl, sym, arith, inl, inr, All, AllPairs, IsTrue, eq-eqb}
use Rattle.std.proofs.lemmas.Bool.{cases_Bool, eqb-true}
use Rattle.scenario_reader.specs.Finish.{node_of}
use Rattle.scenario_reader.specs.Legs.{is_among}
use Rattle.scenario_reader.proofs.PlaceFacts.{node_at, node_within}

-- how many of `ys` are among `xs`
pub hits : List ℕ → List ℕ → ℕ
hits xs [] = 0
hits xs (y ∷ ys) = cond (is_among xs y) 1 0 + hits xs ys

one_most : (b : Bool) (n k : ℕ) → n ≤ k → cond b 1 0 + n ≤ suc k
one_most true n k le = omega arith
one_most false n k le = omega arith

hits_few : (xs ys : List ℕ) → hits xs ys ≤ length ys
unfolding hits
hits_few xs [] = omega arith
hits_few xs (y ∷ ys) = one_most (is_among xs y) (hits xs ys) (length ys) (hits_few xs ys)

-- one more to be found among never takes a hit away
or_more : (first rest : Bool) (n m : ℕ) → n ≤ m → cond rest 1 0 + n ≤ cond (first || rest) 1 0 + m
or_more true true n m le = omega arith
or_more true false n m le = omega arith
or_more false true n m le = omega arith
or_more false false n m le = omega arith

hits_more : (x : ℕ) (xs ys : List ℕ) → hits xs ys ≤ hits (x ∷ xs) ys
unfolding hits
hits_more x xs [] = omega arith
hits_more x xs (y ∷ ys) =
    or_more (eqb x y) (is_among xs y) (hits xs ys) (hits (x ∷ xs) ys) (hits_more x xs ys)

or_one_more : (first rest : Bool) (n m : ℕ) → n + 1 ≤ m
    → cond rest 1 0 + n + 1 ≤ cond (first || rest) 1 0 + m
or_one_more true true n m le = omega arith
or_one_more true false n m le = omega arith
or_one_more false true n m le = omega arith
or_one_more false false n m le = omega arith

-- and where it is itself among them it adds one
hits_new : (x : ℕ) (xs ys : List ℕ) → is_among ys x ≡ true → is_among xs x ≡ false
    → hits xs ys + 1 ≤ hits (x ∷ xs) ys
unfolding hits
hits_new x xs [] there none = absurd cc
hits_new x xs (y ∷ ys) there none = by (eqb y x) refl there (hits_new x xs ys)
  where
    by : (b : Bool) → eqb y x ≡ b → (b || is_among ys x) ≡ true
        → (is_among ys x ≡ true → is_among xs x ≡ false → hits xs ys + 1 ≤ hits (x ∷ xs) ys)
        → cond (is_among xs y) 1 0 + hits xs ys + 1 ≤ cond (eqb x y || is_among xs y) 1 0
        + hits (x ∷ xs) ys
    by true e h more =
        let same : y ≡ x = eqb-true y x e in
        let here : eqb x x ≡ true = eq-eqb x x refl in
        let less = hits_more x xs ys in
        rw (same, none, here) (omega arith)
    by false e h more = or_one_more (eqb x y) (is_among xs y) (hits xs ys) (hits (x ∷ xs) ys)
        (more h none)

-- a place that stands nowhere isn't among them
pub nowhere : (xs : List ℕ) (x : ℕ) → ((k : ℕ) → k < length xs → get_or xs k 0 ≢ x)
    → is_among xs x ≡ false
nowhere xs x none =
    elim (cases_Bool (is_among xs x)) [
      | inl there ↦ absurd (none (node_of xs x) (node_within xs x there) (node_at xs x 0 there))
      | inr not_there ↦ not_there
    ]

pub different_few : (xs ys : List ℕ) → AllPairs (λ a b. a ≢ b) xs
    → All (λ x. IsTrue (is_among ys x)) xs → length xs ≤ hits xs ys
different_few [] ys apart all = omega arith
different_few (x ∷ xs) ys apart all =
    let rest = different_few xs ys
    (λ i j d before within. apart (suc i) (suc j) d (omega arith) (omega arith))
    (λ k d h. all (suc k) d (omega arith)) in
    let none = nowhere xs x (λ k h e. apart 0 (suc k) 0 (omega arith) (omega arith) (sym e)) in
    let more = hits_new x xs ys (all 0 x (omega arith)) none in
    omega arith

-- different places, all among others, are no more than those
pub no_more : (xs ys : List ℕ) → AllPairs (λ a b. a ≢ b) xs → All (λ x. IsTrue (is_among ys x)) xs
    → length xs ≤ length ys
no_more xs ys apart all =
    let one = different_few xs ys apart all in
    let two = hits_few xs ys in
    omega arith
